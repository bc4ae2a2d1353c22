-- A code of sources, by which they may stand in the values of types with a model.
use Rattle.std.specs.Prelude.{◌≡◌, ℕ, ℤ, zero, suc, List, Option, refl}
use Rattle.std.specs.Coded.{Coded, code_by, coded×, coded_list, coded_option, coded_ℕ, coded_ℤ}
use Rattle.plant_types.specs.declared.values.Bounds.{Bounds}
use Rattle.plant_types.specs.declared.values.Kind.{Kind}
use Rattle.plant_types.specs.declared.values.Kind.TheVariants as kind
use Rattle.plant_types.specs.declared.values.Region.{Region}
use Rattle.plant_types.specs.declared.values.Region.TheVariants as region
use Rattle.st_tree.specs.Plain.{PlainBody}
use Rattle.st_tree.specs.Code.{body_code}
use Rattle.logic_source.specs.declared.logic.Variable.{Variable}
use Rattle.logic_source.specs.declared.logic.Local.{Local}
use Rattle.logic_source.specs.declared.logic.Row.{Row}
use Rattle.logic_source.specs.declared.logic.Instance.{Instance}
use Rattle.logic_source.specs.declared.logic.BlockRef.{BlockRef}
use Rattle.logic_source.specs.declared.logic.BlockRef.TheVariants.{Ton, Tof, RTrig, Declared}
use Rattle.logic_source.specs.Source.{PlainRoutine, Source}

abbrev kind_in : Kind → ℕ
kind_in kind.Bool = 0
kind_in kind.Dint = 1
kind_in kind.Time = 2

abbrev kind_out : ℕ → Kind
kind_out zero = kind.Bool
kind_out (suc zero) = kind.Dint
kind_out (suc (suc n)) = kind.Time

pub kind_back : (k : Kind) → kind_out (kind_in k) ≡ k
kind_back kind.Bool = refl
kind_back kind.Dint = refl
kind_back kind.Time = refl

abbrev pub kind_code : Coded Kind
kind_code = code_by ℕ coded_ℕ kind_in kind_out kind_back

abbrev region_in : Region → ℕ
region_in region.Input = 0
region_in region.Output = 1
region_in region.Plain = 2

abbrev region_out : ℕ → Region
region_out zero = region.Input
region_out (suc zero) = region.Output
region_out (suc (suc n)) = region.Plain

pub region_back : (r : Region) → region_out (region_in r) ≡ r
region_back region.Input = refl
region_back region.Output = refl
region_back region.Plain = refl

abbrev pub region_code : Coded Region
region_code = code_by ℕ coded_ℕ region_in region_out region_back

abbrev pub variable_code : Coded Variable
variable_code =
    code_by (List ℕ × (Option Region × Kind)) (coded× (coded_list coded_ℕ) (coded× (coded_option region_code) kind_code)) (λ v. (v.name, (v.region, v.kind))) (λ p. record { name = p.0; region = p.1.0; kind = p.1.1 }) (λ _. refl)

abbrev pub local_code : Coded Local
local_code = code_by (List ℕ × Kind) (coded× (coded_list coded_ℕ) kind_code) (λ l. (l.name, l.kind)) (λ p. record { name = p.0; kind = p.1 }) (λ _. refl)

abbrev pub bounds_code : Coded Bounds
bounds_code = code_by (ℤ × ℤ) (coded× coded_ℤ coded_ℤ) (λ b. (b.low, b.high)) (λ p. record { low = p.0; high = p.1 }) (λ _. refl)

abbrev pub row_code : Coded Row
row_code =
    code_by (List ℕ × (Kind × Bounds)) (coded× (coded_list coded_ℕ) (coded× kind_code bounds_code)) (λ r. (r.name, (r.kind, r.bounds))) (λ p. record { name = p.0; kind = p.1.0; bounds = p.1.1 }) (λ _. refl)

abbrev block_in : BlockRef → ℕ
block_in Ton = 0
block_in Tof = 1
block_in RTrig = 2
block_in (Declared n) = suc (suc (suc n))

abbrev block_out : ℕ → BlockRef
block_out zero = Ton
block_out (suc zero) = Tof
block_out (suc (suc zero)) = RTrig
block_out (suc (suc (suc n))) = Declared n

pub block_back : (b : BlockRef) → block_out (block_in b) ≡ b
block_back Ton = refl
block_back Tof = refl
block_back RTrig = refl
block_back (Declared n) = refl

abbrev pub block_code : Coded BlockRef
block_code = code_by ℕ coded_ℕ block_in block_out block_back

abbrev pub instance_code : Coded Instance
instance_code = code_by (List ℕ × BlockRef) (coded× (coded_list coded_ℕ) block_code) (λ i. (i.name, i.of)) (λ p. record { name = p.0; of = p.1 }) (λ _. refl)

abbrev pub routine_code : Coded PlainRoutine
routine_code =
    code_by (List ℕ × (List Local × (List Row × (List Instance × (PlainBody (List ℕ) × PlainBody (List ℕ))))))
    (coded× (coded_list coded_ℕ) (coded× (coded_list local_code) (coded× (coded_list row_code) (coded× (coded_list instance_code) (coded× body_code body_code)))))
    (λ r. (r.name, (r.locals, (r.rows, (r.instances, (r.starts, r.body)))))) (λ p. record { name = p.0; locals = p.1.0; rows = p.1.1.0; instances = p.1.1.1.0; starts = p.1.1.1.1.0; body = p.1.1.1.1.1 }) (λ _. refl)

-- the code of a source: that of its globals, its global arrays, the initial values that are written for globals, its programs and its block types
abbrev pub source_code : Coded Source
source_code =
    code_by (List Variable × (List Row × (PlainBody (List ℕ) × (List PlainRoutine × List PlainRoutine))))
    (coded× (coded_list variable_code) (coded× (coded_list row_code) (coded× body_code (coded× (coded_list routine_code) (coded_list routine_code)))))
    (λ s. (s.globals, (s.rows, (s.starts, (s.programs, s.blocks))))) (λ p. record { globals = p.0; rows = p.1.0; starts = p.1.1.0; programs = p.1.1.1.0; blocks = p.1.1.1.1 }) (λ _. refl)
