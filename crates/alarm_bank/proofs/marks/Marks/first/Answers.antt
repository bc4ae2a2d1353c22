use Rattle.std.proofs.Common.{◌≡◌, ◌+◌, ◌*◌, ◌<◌, ◌^◌, ℕ, inl, inr, true, false, Bool, List, length, slice_get, Some, get_or, w64, refl, arith, ap, sym, ◌∙◌}
use Rattle.std.proofs.lemmas.Bool.{cases_lt}
use Rattle.std.specs.Int.{trailing_zeros}
use Rattle.alarm_bank.specs.Marks.{bit_of, flags_of, AreMarks}
use Rattle.alarm_bank.proofs.MarkLaws.{length-flags_of, left_all, first_set, first_clear, set_within, mark_bit}
use Rattle.alarm_bank.proofs.marks.Marks.first.Goals as goal

-- the first bit that is set is that of a place
found : (marks : List Bool) (words : List ℕ) (index word : ℕ) → word ≡ get_or words index 0 → 0 < word → word < 2 ^ 64 → AreMarks (length marks) words → index * 64 + trailing_zeros w64 word < length marks
found marks words index word read some small are =
    set_within (length marks) words (index * 64 + trailing_zeros w64 word) are (first_set words index word (index * 64) (left_all words index word read) some small)

-- and none before it is
before : (marks : List Bool) (words : List ℕ) (index word : ℕ) → word ≡ get_or words index 0 → 0 < word → word < 2 ^ 64 → AreMarks (length marks) words → marks ≡ flags_of (length marks) words
    → ((n : ℕ) → n < index * 64 → bit_of words n ≡ false) → (n : ℕ) → n < index * 64 + trailing_zeros w64 word → slice_get marks n ≡ Some false
before marks words index word read some small are flags earlier n less =
    let within = found marks words index word read some small are in
    mark_bit marks words n false flags (omega (arith, less, within)) (elim (cases_lt n (index * 64)) [
      | inl low ↦ earlier n low
      | inr high ↦ first_clear words index word (index * 64) (left_all words index word read) some small n high less
    ])

pub overflow_mul-result : goal.overflow_mul-result
overflow_mul-result c =
    let many : length c.args.self.now ≡ c.self.inside.count = ap (λ (m : List Bool). length m) (sym c.self.view_is) ∙ length-flags_of c.self.inside.count c.self.inside.words.items in
    let room = c.words-words.ensures.marks.room in
    record { fits = omega (arith, many, room) }

pub overflow_add-result : goal.overflow_add-result
overflow_add-result c =
    let many : length c.args.self.now ≡ c.self.inside.count = ap (λ (m : List Bool). length m) (sym c.self.view_is) ∙ length-flags_of c.self.inside.count c.self.inside.words.items in
    let within = found c.args.self.now c.words-words.result.now c.loop-index.index (get_or c.words-words.result.now c.loop-index.index 0) refl (omega (arith, c.if-word-ne0.true)) (omega arith) c.words-words.ensures.marks in
    record { fits = omega (arith, many, within) }

pub returns-then-word-ne0-clause-within : goal.returns-then-word-ne0-clause-within
returns-then-word-ne0-clause-within c =
    let within = found c.args.self.now c.words-words.result.now c.loop-index.index (get_or c.words-words.result.now c.loop-index.index 0) refl (omega (arith, c.if-word-ne0.true)) (omega arith) c.words-words.ensures.marks in
    omega (arith, within)

pub returns-then-word-ne0-clause-clear : goal.returns-then-word-ne0-clause-clear
returns-then-word-ne0-clause-clear c = before c.args.self.now c.words-words.result.now c.loop-index.index (get_or c.words-words.result.now c.loop-index.index 0) refl (omega (arith, c.if-word-ne0.true)) (omega arith) c.words-words.ensures.marks c.words-words.ensures.flags c.loop-index.invariant

pub returns-then-word-ne0-clause-set : goal.returns-then-word-ne0-clause-set
returns-then-word-ne0-clause-set c = λ within.
    let word = get_or c.words-words.result.now c.loop-index.index 0 in
    mark_bit c.args.self.now c.words-words.result.now (c.loop-index.index * 64 + trailing_zeros w64 word) true c.words-words.ensures.flags within
    (first_set c.words-words.result.now c.loop-index.index word (c.loop-index.index * 64) (left_all c.words-words.result.now c.loop-index.index word refl) (omega (arith, c.if-word-ne0.true)) (omega arith))

pub returns-clause-within : goal.returns-clause-within
returns-clause-within c =
    let many : length c.args.self.now ≡ c.self.inside.count = ap (λ (m : List Bool). length m) (sym c.self.view_is) ∙ length-flags_of c.self.inside.count c.self.inside.words.items in
    omega (arith, many)

pub returns-clause-clear : goal.returns-clause-clear
returns-clause-clear c = λ n less.
    let many : length c.args.self.now ≡ c.self.inside.count = ap (λ (m : List Bool). length m) (sym c.self.view_is) ∙ length-flags_of c.self.inside.count c.self.inside.words.items in
    let room = c.words-words.ensures.marks.room in
    mark_bit c.args.self.now c.words-words.result.now n false c.words-words.ensures.flags (omega (arith, less, many)) (c.loop-index.invariant n (omega (arith, less, many, room)))

pub returns-clause-set : goal.returns-clause-set
returns-clause-set c = λ less.
    let many : length c.args.self.now ≡ c.self.inside.count = ap (λ (m : List Bool). length m) (sym c.self.view_is) ∙ length-flags_of c.self.inside.count c.self.inside.words.items in
    absurd (omega (arith, less, many))
