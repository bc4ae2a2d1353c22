-- The records that were reached one by one are those of the definition.
use Rattle.std.proofs.Common.{◌≡◌, ◌<◌, ◌+◌, ◌⊎◌, ◌∷◌, ◌++◌, ℕ, zero, suc, List, [], length, Some, None, refl, arith, inl, inr}
use Rattle.std.proofs.lemmas.Bool.{cases_Bool}
use Rattle.csv.specs.Machine.{Read, ends_at_end, fields_after, field_after, is_end, next_record, step}
use Rattle.csv.specs.Reading.{AreRecords, Reached, records, records_from}
use Rattle.csv.specs.declared.parser.Config.{Config}
use Rattle.csv.specs.declared.parser.State.{State}
use Rattle.csv.specs.declared.parser.State.TheVariants as st

-- what a record takes from a text: a byte at least, or all that is left
taken : (cfg : Config) (s : State) (fields : List (List ℕ)) (field : List ℕ) (xs : List ℕ) (p : Read) → next_record cfg s fields field xs ≡ Some p
    → (length p.2 < length xs) ⊎ ((p.1 ≡ st.StartRecord) × (p.2 ≡ []))
unfolding next_record
taken cfg s fields field [] p e =
    elim (cases_Bool (ends_at_end s)) [
      | inl so ↦ let f = rw so at e in inr (cc f, cc f)
      | inr not_so ↦ let f = rw not_so at e in absurd (cc f)
    ]
taken cfg s fields field (c ∷ rest) p e =
    elim (cases_Bool (is_end (step cfg s c).1)) [
      | inl so ↦
          let f = rw so at e in
          let g : p.2 ≡ rest = cc f in
          inl (rw g (omega arith))
      | inr not_so ↦
          let f = rw not_so at e in
          elim (taken cfg (step cfg s c).0 (fields_after (step cfg s c).1 fields field) (field_after (step cfg s c).1 c field) rest p f) [
            | inl less ↦ inl (omega arith)
            | inr end ↦ inr end
          ]
    ]

-- nothing is left of an empty text at the start of a record
none-left : (cfg : Config) (s s2 : State) (xs ys : List ℕ) (rows : List (List (List ℕ))) → s ≡ st.StartRecord → xs ≡ [] → Reached cfg s xs rows s2 ys → rows ≡ []
unfolding Reached next_record
none-left cfg s s2 xs ys [] es ex h = refl
none-left cfg s s2 xs ys (r ∷ rs) es ex h = let e = rw (es, ex) at h.1 in absurd (cc e)

none-from : (cfg : Config) (n : ℕ) (s : State) (xs : List ℕ) → s ≡ st.StartRecord → xs ≡ [] → records_from cfg n s xs ≡ []
unfolding records_from next_record
none-from cfg zero s xs es ex = refl
none-from cfg (suc n) s xs es ex = rw (es, ex) refl

complete : (cfg : Config) (n : ℕ) (s s2 : State) (xs ys : List ℕ) (rows : List (List (List ℕ))) → Reached cfg s xs rows s2 ys → next_record cfg s2 [] [] ys ≡ None → length xs < n
    → rows ≡ records_from cfg n s xs
unfolding Reached records_from
complete cfg zero s s2 xs ys rows h e lt = absurd (omega arith)
complete cfg (suc n) s s2 xs ys [] h e lt = rw (h.0, h.1, e) refl
complete cfg (suc n) s s2 xs ys (r ∷ rs) h e lt =
    elim (taken cfg s [] [] xs h.0 h.1) [
      | inl less ↦ rw (h.1, h.2, complete cfg n h.0.1 s2 h.0.2 ys rs h.3 e (omega arith)) refl
      | inr end ↦ rw (h.1, h.2, none-left cfg h.0.1 s2 h.0.2 ys rs end.0 end.1 h.3, none-from cfg n h.0.1 h.0.2 end.0 end.1) refl
    ]

-- all the records, one after another, are those of the definition
pub are-records : (cfg : Config) (xs : List ℕ) (rows : List (List (List ℕ))) → AreRecords cfg st.StartRecord xs rows → rows ≡ records cfg xs
are-records cfg xs rows h = complete cfg (length xs + 1) st.StartRecord h.0 xs h.1 rows h.2 h.3 (omega arith)

-- the records that were reached begin all the records
begins : (cfg : Config) (n : ℕ) (s s2 : State) (xs ys : List ℕ) (rows : List (List (List ℕ))) → Reached cfg s xs rows s2 ys → length xs < n
    → (more : List (List (List ℕ))) × (records_from cfg n s xs ≡ rows ++ more)
unfolding Reached records_from
begins cfg zero s s2 xs ys rows h lt = absurd (omega arith)
begins cfg (suc n) s s2 xs ys [] h lt = (records_from cfg (suc n) s xs, refl)
begins cfg (suc n) s s2 xs ys (r ∷ rs) h lt =
    elim (taken cfg s [] [] xs h.0 h.1) [
      | inl less ↦
          let rest = begins cfg n h.0.1 s2 h.0.2 ys rs h.3 (omega arith) in
          (rest.0, rw (h.1, h.2, rest.1) refl)
      | inr end ↦
          (records_from cfg n h.0.1 h.0.2, rw (h.1, h.2, none-left cfg h.0.1 s2 h.0.2 ys rs end.0 end.1 h.3) refl)
    ]

pub begin-records : (cfg : Config) (xs ys : List ℕ) (s2 : State) (rows : List (List (List ℕ))) → Reached cfg st.StartRecord xs rows s2 ys
    → (more : List (List (List ℕ))) × (records cfg xs ≡ rows ++ more)
begin-records cfg xs ys s2 rows h = begins cfg (length xs + 1) st.StartRecord s2 xs ys rows h (omega arith)
