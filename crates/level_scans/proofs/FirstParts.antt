-- The parts of programs, one after another.
use Rattle.std.proofs.Common.{◌≡◌, ◌∙◌, ℕ, ◌+◌, ◌<◌, List, [], ◌∷◌, ◌++◌, length, get_or, sym, subst, arith, ⊎_elim}
use Rattle.std.proofs.lemmas.Bool.{cases_lt}
use Rattle.std.proofs.lemmas.List.{length_push, get_or_push, get_or_append_left}
use Rattle.logic_source.specs.Source.{Source}
use Rattle.acc_vm.specs.Codes.{PlainCode}
use Rattle.vm_slices.specs.Parts.{PlainPart, IsPartOf}
use Rattle.level_jobs.specs.Accesses.{ArePartsOf}
use Rattle.level_jobs.specs.Programs.{no_code, code_at}
use Rattle.vm_carry.specs.Runs.{IsProgramCode}

-- parts are those of the codes of the first so many programs
pub record AreFirstParts (source : Source) (k : ℕ) (parts : List PlainPart) : Type 0 where
  pub codes : List PlainCode
  pub many : length codes ≡ k
  pub are : (p : ℕ) → p < k → IsProgramCode source p (code_at codes p)
  pub of_codes : ArePartsOf codes parts

pub first_more : (source : Source) (k : ℕ) (parts : List PlainPart) (code : PlainCode) (part : PlainPart) → AreFirstParts source k parts → IsProgramCode source k code → IsPartOf code part
    → AreFirstParts source (k + 1) (parts ++ part ∷ [])
first_more source k parts code part first is of =
    let codes = first.codes in
    let all : List PlainCode = codes ++ code ∷ [] in
    let many = first.many in
    let before : (p : ℕ) → p < k → code_at codes p ≡ code_at all p = λ p less. sym (get_or_append_left codes (code ∷ []) no_code p (omega (arith, less, many))) in
    let last : (p : ℕ) → p ≡ k → code ≡ code_at all p = λ p same. sym (get_or_push codes code no_code p (many ∙ sym same)) in
    record {
      codes = all;
      many = length_push codes code ∙ omega (arith, many);
      are = λ p less. ⊎_elim
          (λ low. subst (IsProgramCode source p) (before p low) (first.are p low))
          (λ high.
          let same : p ≡ k = omega (arith, less, high) in
          subst (IsProgramCode source p) (last p same) (subst (λ (n : ℕ). IsProgramCode source n code) (sym same) is))
          (cases_lt p k);
      of_codes = record {
        one_each = length_push parts part ∙ omega (arith, first.of_codes.one_each) ∙ sym (length_push codes code);
        each = λ p d less. ⊎_elim
            (λ low.
            let there : p < length parts = omega (arith, low, many, first.of_codes.one_each) in
            subst (λ (c : PlainCode). IsPartOf c (get_or (parts ++ part ∷ []) p d)) (before p low)
            (subst (IsPartOf (code_at codes p)) (sym (get_or_append_left parts (part ∷ []) d p there)) (first.of_codes.each p d (omega (arith, low, many)))))
            (λ high.
            let same : p ≡ k = omega (arith, less, high, many, length_push codes code) in
            subst (λ (c : PlainCode). IsPartOf c (get_or (parts ++ part ∷ []) p d)) (last p same)
            (subst (IsPartOf code) (sym (get_or_push parts part d p (omega (arith, same, many, first.of_codes.one_each)))) of))
            (cases_lt p k);
      };
    }
