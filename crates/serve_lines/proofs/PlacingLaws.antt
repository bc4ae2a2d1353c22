-- Writes at places of one text, one after another.
use Rattle.std.proofs.Common.{◌≡◌, ℕ, ◌+◌, ◌-◌, ◌≤◌, List, [], ◌∷◌, ◌++◌, length, take, drop, decimal, ap, sym, subst, ◌∙◌, arith, append_assoc, append-nil, length-append, length-take-le, length-drop, take-add, take-take, take_at, drop_at, take_all, take-append-drop}
use Rattle.std.specs.Prelude.{codes}
use Rattle.alarm_machine.specs.Codes.{PlainChange, code_text}
use Rattle.alarm_machine.specs.declared.states.Code.{Code}
use Rattle.plant_types.specs.declared.values.Value.{Value}
use Rattle.serve_lines.specs.Lines.{alarm_front, alarm_line, out_front, out_line, value_text}
use Rattle.serve_lines.specs.Placing.{IsPlaced}

-- a second write begins where the first ended
pub IsPlaced-then : {a b c xs ys : List ℕ} {i j k : ℕ} → IsPlaced a b i xs j → IsPlaced b c j ys k → IsPlaced a c i (xs ++ ys) k
IsPlaced-then {a} {b} {c} {xs} {ys} {i} p q = record {
  bytes = q.bytes ∙ ap (λ l. l ++ ys) p.bytes ∙ append_assoc (take i a) xs ys;
  moved = omega (arith, p.moved, q.moved, length-append xs ys);
  len = q.len ∙ p.len;
}

-- only the first n bytes of a write are kept
pub IsPlaced-less : {a b xs : List ℕ} {i j : ℕ} (n : ℕ) → i ≤ length a → n ≤ length xs → IsPlaced a b i xs j → IsPlaced a b i (take n xs) (i + n)
IsPlaced-less {a} {b} {xs} {i} {j} n within few p =
    let front = length-take-le i a within in
    record {
      bytes = sym (take-take (i + n) j b (omega (arith, p.moved))) ∙ ap (take (i + n)) p.bytes ∙ take-add i n (take i a ++ xs)
          ∙ (λ k. take_at (take i a) xs i front k ++ take n (drop_at (take i a) xs i front k));
      moved = omega (arith, length-take-le n xs few);
      len = p.len;
    }

-- the first and the last `half` bytes of a text, laid over each other, are the text
pub IsPlaced-ends : {a b c : List ℕ} {i j k : ℕ} (text : List ℕ) (half : ℕ) → i ≤ length a → half ≤ length text → length text ≤ half + half
    → IsPlaced a b i (take half text) j → IsPlaced b c (i + (length text - half)) (take half (drop (length text - half) text)) k → IsPlaced a c i text k
IsPlaced-ends {a} {b} {c} {i} {j} {k} text half within fits covers p q =
    let last = length text - half in
    let both = IsPlaced-then (IsPlaced-less last within (omega (arith, length-take-le half text fits)) p) q in
    let whole : take last (take half text) ++ take half (drop last text) ≡ text =
    (λ x. take-take last half text (omega arith) x ++ take_all half (drop last text) (omega (arith, length-drop last text)) x) ∙ take-append-drop last text in
    record { bytes = both.bytes ∙ ap (λ l. take i a ++ l) whole; moved = both.moved ∙ ap (λ l. i + length l) whole; len = both.len }

-- the parts of a line after its name, however they are put together
module _ (d tag f t : List ℕ) where
  abbrev last : List ℕ
  last = 10 ∷ []

  abbrev whole : List ℕ
  whole = d ++ (32 ∷ (tag ++ (32 ∷ (f ++ (32 ∷ (t ++ last))))))

  placed_parts : (d ++ 32 ∷ []) ++ (tag ++ ((32 ∷ (f ++ 32 ∷ [])) ++ (t ++ last))) ≡ whole
  placed_parts = append_assoc d (32 ∷ []) _ ∙ ap (λ (l : List ℕ). d ++ (32 ∷ (tag ++ (32 ∷ l)))) (append_assoc f (32 ∷ []) (t ++ last))

  field_parts : (d ++ ((32 ∷ tag) ++ ((32 ∷ f) ++ ((32 ∷ t) ++ [])))) ++ last ≡ whole
  field_parts =
      append_assoc d _ last ∙ ap (λ (l : List ℕ). d ++ (32 ∷ l)) (append_assoc tag _ last
      ∙ ap (λ (l : List ℕ). tag ++ (32 ∷ l)) (append_assoc f _ last ∙ ap (λ (l : List ℕ). f ++ (32 ∷ (l ++ last))) (append-nil t)))

-- the parts of an ALARM line
line_parts : (t : ℕ) (tag : List ℕ) (change : PlainChange)
    → alarm_front t ++ (tag ++ ((32 ∷ (code_text change.from ++ 32 ∷ [])) ++ (code_text change.to ++ 10 ∷ []))) ≡ alarm_line t tag change
unfolding alarm_line
line_parts t tag change =
    let f = code_text change.from in
    let g = code_text change.to in
    ap (λ (l : List ℕ). codes "ALARM " ++ l) (placed_parts (decimal t) tag f g ∙ sym (field_parts (decimal t) tag f g))

-- they are put one after another
pub line_placed : {a b c d e : List ℕ} {i j k l m : ℕ} {f g : Code} {tag : List ℕ} (t : ℕ) (change : PlainChange) → f ≡ change.from → g ≡ change.to
    → IsPlaced a b i (alarm_front t) j → IsPlaced b c j tag k → IsPlaced c d k (32 ∷ (code_text f ++ 32 ∷ [])) l → IsPlaced d e l (code_text g ++ 10 ∷ []) m
    → IsPlaced a e i (alarm_line t tag change) m
line_placed {a = a} {e = e} {i = i} {m = m} {tag = tag} t change p q front tagged left last =
    let same = (λ k. alarm_front t ++ (tag ++ ((32 ∷ (code_text (p k) ++ 32 ∷ [])) ++ (code_text (q k) ++ 10 ∷ [])))) ∙ line_parts t tag change in
    subst (λ (xs : List ℕ). IsPlaced a e i xs m) same (IsPlaced-then front (IsPlaced-then tagged (IsPlaced-then left last)))

-- the parts of an OUT line
output_parts : (t : ℕ) (name : List ℕ) (value : Value) → out_front t ++ (name ++ (32 ∷ (value_text value ++ 10 ∷ []))) ≡ out_line t name value
unfolding out_line
output_parts t name value =
    let d = decimal t in
    let v = value_text value in
    let last : List ℕ = 10 ∷ [] in
    let placed : (d ++ 32 ∷ []) ++ (name ++ (32 ∷ (v ++ last))) ≡ d ++ (32 ∷ (name ++ (32 ∷ (v ++ last)))) = append_assoc d (32 ∷ []) _ in
    let fields : (d ++ ((32 ∷ name) ++ ((32 ∷ v) ++ []))) ++ last ≡ d ++ (32 ∷ (name ++ (32 ∷ (v ++ last)))) =
    append_assoc d _ last ∙ ap (λ (l : List ℕ). d ++ (32 ∷ l)) (append_assoc name _ last ∙ ap (λ (l : List ℕ). name ++ (32 ∷ (l ++ last))) (append-nil v))
    in
    ap (λ (l : List ℕ). codes "OUT " ++ l) (placed ∙ sym fields)

-- they are put one after another
pub output_placed : {a b c d : List ℕ} {i j k l : ℕ} (t : ℕ) (name : List ℕ) (value : Value)
    → IsPlaced a b i (out_front t) j → IsPlaced b c j name k → IsPlaced c d k (32 ∷ (value_text value ++ 10 ∷ [])) l → IsPlaced a d i (out_line t name value) l
output_placed {a = a} {d = d} {i = i} {l = l} t name value front named valued =
    subst (λ (xs : List ℕ). IsPlaced a d i xs l) (output_parts t name value) (IsPlaced-then front (IsPlaced-then named valued))
