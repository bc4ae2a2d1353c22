use Rattle.std.proofs.Common.{◌∷◌, ◌++◌, ◌∙◌, [], ap, sym, refl}
use Rattle.csv.specs.Records.{fields_of}
use Rattle.alarm_db.specs.Gathering.{early_fault}
use Rattle.alarm_db.proofs.Gathered.{even_more, none_gathered, uneven, unheaded}
use Rattle.alarm_db.proofs.gathering.gather.Goals as goal

pub returns-then-not-found : goal.returns-then-not-found
returns-then-not-found c =
    let none = rw c.if-not-found.true at (c.in_ok-found.ensures.read c.args.text.now [] c.reader_of-reader.ensures) in
    ap early_fault (sym none)

pub returns-in-None : goal.returns-in-None
returns-in-None c =
    let has = rw c.if-not-found.false at (c.in_ok-found.ensures.read c.args.text.now [] c.reader_of-reader.ensures) in
    unheaded c.args.text.now (fields_of c.next_record.new.row) c.next_record.new.reader has (sym c.version_of.ensures ∙ c.in-None.is)

pub records-init : goal.records-init
records-init c =
    let has = rw c.if-not-found.false at (c.in_ok-found.ensures.read c.args.text.now [] c.reader_of-reader.ensures) in
    (fields_of c.next_record.new.row, [], sym c.version_of.ensures ∙ c.in-Some.is, refl, has, none_gathered c.in-Some.version _ c.requires.count c.requires.fault c.requires.rows)

pub records-preserved : goal.records-preserved
records-preserved c =
    let inv = c.records.invariant in
    let has = rw c.if-not-more.false at (c.in_ok-more.ensures.read c.args.text.now (inv.0 ∷ inv.1) inv.4) in
    (inv.0, inv.1 ++ fields_of c.next_record-in-records.new.row ∷ [], inv.2, even_more c.in-Some.version inv.1 (fields_of c.next_record-in-records.new.row) inv.3 (sym c.is_even.ensures ∙ c.if-not-is_even.false), has, c.in_ok-add_row.ensures inv.1 inv.5)

pub returns-then-not-more : goal.returns-then-not-more
returns-then-not-more c =
    let inv = c.records.invariant in
    record { header = inv.0; rows = inv.1; version = c.in-Some.version; all = rw c.if-not-more.true at (c.in_ok-more.ensures.read c.args.text.now (inv.0 ∷ inv.1) inv.4); names = inv.2; even = inv.3; told = inv.5 }

pub returns-then-not-is_even : goal.returns-then-not-is_even
returns-then-not-is_even c =
    let inv = c.records.invariant in
    let has = rw c.if-not-more.false at (c.in_ok-more.ensures.read c.args.text.now (inv.0 ∷ inv.1) inv.4) in
    uneven c.in-Some.version c.args.text.now inv.0 inv.1 (fields_of c.next_record-in-records.new.row) c.next_record-in-records.new.reader has inv.2 (sym c.is_even.ensures ∙ c.if-not-is_even.true)
