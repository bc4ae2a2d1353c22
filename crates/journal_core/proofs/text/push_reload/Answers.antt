use Rattle.std.proofs.Common.{◌≡◌, ◌++◌, List, ℕ, ap, ◌∙◌, sym, codes}
use Rattle.std.specs.Fmt.{decimal}
use Rattle.std.specs.Prelude.{string_bytes}
use Rattle.std.proofs.lemmas.List.{append_assoc}
use Rattle.journal_core.proofs.text.push_reload.Goals as goal

-- two parts, appended one after another
two : (a b c k m p n : List ℕ) → b ≡ a ++ (k ++ m) → c ≡ b ++ (p ++ n) → c ≡ a ++ (((k ++ m) ++ p) ++ n)
two a b c k m p n first second =
    second ∙ ap (λ (l : List ℕ). l ++ (p ++ n)) first ∙ append_assoc a (k ++ m) (p ++ n) ∙ ap (λ (l : List ℕ). a ++ l) (sym (append_assoc (k ++ m) p n))

pub returns : goal.returns
returns c =
    two (string_bytes c.args.text.now) (string_bytes c.push_count.new.text) (string_bytes c.push_count-2.new.text) (codes "RELOAD KEPT ") (decimal c.args.kept) (codes " NEW ") (decimal c.args.fresh)
    c.in_ok-push_count.ensures c.in_ok-push_count-2.ensures
