-- Programs over one store, and what they do one after another in program order.
use Rattle.std.specs.Prelude.{◌≡◌, ℕ, suc, ◌<◌, Bool, true, false, List, [], ◌∷◌, Option, Some, None, is_some}

-- what a run leaves, and its trap if it trapped
pub record RanProgram (S E : Type 0) : Type 0 where
  pub store : S
  pub trap : Option E

-- the outcome of a scan: the store, for each program whether it is faulted, and the traps with their programs' numbers
pub record Outcome (S E : Type 0) : Type 0 where
  pub store : S
  pub faulted : List Bool
  pub faults : List (ℕ × E)

-- a store has a size, and each of its slots a value; of each program, by number, which slots it names, which it writes, what it does to a store, and in which level it stands
pub record Programs (S K V Z E : Type 0) : Type 0 where
  pub size : S → Z
  pub value : S → K → V
  pub names : ℕ → K → Bool
  pub writes : ℕ → K → Bool
  pub run : ℕ → S → RanProgram S E
  pub level : ℕ → ℕ

module _ {S K V Z E : Type 0} where
  -- two stores agree on all that a program names
  abbrev pub Agree : Programs S K V Z E → ℕ → S → S → Type 0
  Agree P p s t = (x : K) → P.names p x ≡ true → P.value s x ≡ P.value t x

  -- a store is no more than its size and the values of its slots
  abbrev pub AreKnownBySlots : Programs S K V Z E → Type 0
  AreKnownBySlots P = (s t : S) → P.size s ≡ P.size t → ((x : K) → P.value s x ≡ P.value t x) → s ≡ t

  -- each of the first n programs is local
  pub record AreLocal (P : Programs S K V Z E) (n : ℕ) : Type 0 where
    -- it names what it writes
    pub named : (p : ℕ) (x : K) → p < n → P.writes p x ≡ true → P.names p x ≡ true
    -- frame: slots that it doesn't write are as before, also after a trap, and the size stays
    pub frame : (p : ℕ) (s : S) (x : K) → p < n → P.writes p x ≡ false → P.value (P.run p s).store x ≡ P.value s x
    pub keeps_size : (p : ℕ) (s : S) → p < n → P.size (P.run p s).store ≡ P.size s
    -- depends: from stores of one size that agree on all that it names it traps alike, and leaves stores that agree on all that it names
    pub traps_alike : (p : ℕ) (s t : S) → p < n → P.size s ≡ P.size t → Agree P p s t → (P.run p s).trap ≡ (P.run p t).trap
    pub leaves_alike : (p : ℕ) (s t : S) → p < n → P.size s ≡ P.size t → Agree P p s t → Agree P p (P.run p s).store (P.run p t).store

-- the trap of a program, if it trapped, before those of the programs after it
abbrev pub with_fault : {E : Type 0} → ℕ → Option E → List (ℕ × E) → List (ℕ × E)
with_fault p None faults = faults
with_fault p (Some e) faults = (p, e) ∷ faults

-- a program's flag and its trap are put before those of the programs after it
abbrev pub with_program : {S E : Type 0} → ℕ → Bool → Option E → Outcome S E → Outcome S E
with_program p flag trap rest = record { store = rest.store; faulted = flag ∷ rest.faulted; faults = with_fault p trap rest.faults }

-- the programs from a number on, one after another: one that is faulted is skipped, and one that traps is faulted then, and keeps what it wrote before
abbrev pub in_order : {S E : Type 0} → (ℕ → S → RanProgram S E) → ℕ → List Bool → S → Outcome S E
in_order run p [] s = record { store = s; faulted = []; faults = [] }
in_order run p (true ∷ flags) s = with_program p true None (in_order run (suc p) flags s)
in_order run p (false ∷ flags) s = with_program p (is_some (run p s).trap) (run p s).trap (in_order run (suc p) flags (run p s).store)
