-- Worked examples: what rows tell, and where a record ends.
use Rattle.std.proofs.Common.{◌≡◌, ℕ, true, false, List, [], ◌∷◌, ◌++◌, map, refl, ap, sym, Some, None}
use Rattle.std.specs.Prelude.{codes}
use Rattle.alarm_machine.specs.declared.states.Code.TheVariants.{Norm, Unack, Acked, Oos}
use Rattle.alarm_machine.specs.declared.states.Verb.TheVariants as verb
use Rattle.serve_session.specs.Journal.{NamedRow, ChangeOf, OrderBy, rows_from}
use Rattle.serve_lines.specs.Reloads.{reload_size, reload_sizes, sizes_after}
use Rattle.serve_requests.specs.Requests.{Request, requests_of}
use Rattle.serve_requests.proofs.Beginnings.{requests_end}
use Rattle.serve_laws.specs.Told.{code_after}
use Rattle.serve_laws.specs.Records.{ends_at_line}

-- T1 comes, an order acknowledges it, and T2 is taken out of service
abbrev rows : List NamedRow
rows =
    rows_from 1 7
    (ChangeOf (codes "T1") (record { from = Norm; to = Unack })
    ∷ OrderBy 1 verb.Ack (Some (codes "T1")) None
    ∷ ChangeOf (codes "T1") (record { from = Unack; to = Acked })
    ∷ ChangeOf (codes "T2") (record { from = Norm; to = Oos })
    ∷ [])

codes_of_rows : map (λ tag. code_after tag Norm rows) (codes "T1" ∷ codes "T2" ∷ codes "T3" ∷ []) ≡ Acked ∷ Oos ∷ Norm ∷ []
codes_of_rows = refl

-- a line with its LF ends there, one without doesn't
whole : ends_at_line (codes "list" ++ 10 ∷ []) ≡ true
whole = refl

torn : ends_at_line (codes "list") ≡ false
torn = refl

-- so what follows a torn line belongs to it
abbrev lines : List Request → List (List ℕ)
lines requests = map (λ (r : Request). r.line) requests

-- no bytes come after it
no_body : reload_size (codes "list") ≡ 0
unfolding reload_size reload_sizes sizes_after
no_body = refl

cut_at_line : lines (requests_of ((codes "list" ++ 10 ∷ []) ++ codes "ack")) ≡ codes "list" ∷ codes "ack" ∷ []
cut_at_line = ap lines (requests_end (codes "list") [] (codes "ack") refl (sym no_body))

cut_within : lines (requests_of (codes "li" ++ (codes "st" ++ 10 ∷ []))) ≡ codes "list" ∷ []
cut_within = ap lines (requests_end (codes "list") [] [] refl (sym no_body))
