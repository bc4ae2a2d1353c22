-- The image of a scan that is taken names only globals.
use Rattle.std.proofs.Common.{◌≡◌, ℕ, ◌<◌, ◌≤◌, ap, Bool, true, false, if◌then◌else◌, List, [], ◌∷◌, All, length, refl, subst, Option, Some, None, Ok, Err, arith}
use Rattle.std.specs.Prelude.{slice_get, nat_lt, nat_le}
use Rattle.std.specs.declared.result.Result.{Result}
use Rattle.std.specs.Option.{option_map, option_and_then}
use Rattle.std.proofs.lemmas.Bool.Decides.{nat_tests}
use Rattle.std.proofs.lemmas.Option.{option_and_then_some, slice_get_within}
use Rattle.std.proofs.lemmas.List.Elements.{All-nil, All-cons, All-head, All-tail}
use Rattle.plant_types.specs.Pairs.{PlainPair}
use Rattle.plant_types.specs.Values.{fitted}
use Rattle.plant_types.specs.declared.values.Value.{Value}
use Rattle.st_names.specs.Scopes.{is_input}
use Rattle.logic_source.specs.declared.logic.Variable.{Variable}
use Rattle.logic_source.specs.Names.{find_global}
use Rattle.alarm_machine.specs.declared.limits.TheConstants.{LAST_MOMENT}
use Rattle.engine_system.specs.declared.event.TheConstants.{MOST_EVENTS}
use Rattle.engine_history.specs.declared.event.Event.{Event}
use Rattle.engine_history.specs.declared.event.Event.TheVariants as event
use Rattle.crew.specs.declared.fault.CrewFault.{CrewFault}
use Rattle.crew.specs.declared.fault.CrewFault.TheVariants as crew_fault
use Rattle.engine_system.specs.declared.event.EngineFault.{EngineFault}
use Rattle.engine_system.specs.declared.event.EngineFault.TheVariants as refusal
use Rattle.engine_system.specs.declared.image.Input.{Input}
use Rattle.engine_system.specs.Faults.{faults_with}
use Rattle.engine_system.specs.Image.{input_at, input_of, inputs_of, has_twin, values_of, image_of, IsDue}
use Rattle.engine_system.specs.System.{taken_scan}

-- an input, or a value, is that of a number below
abbrev pub is_below : ℕ → Input → Type 0
is_below n p = p.number < n

abbrev pub has_number : ℕ → ℕ × Value → Type 0
has_number n input = input.0 < n

pub same_some : {A : Type 0} (a b : A) → Some a ≡ Some b → a ≡ b
same_some a b h = cc

pub mapped_some : {A B P : Type 0} (f : A → B) (o : Option A) (y : B) → option_map f o ≡ Some y → ((x : A) → o ≡ Some x → f x ≡ y → P) → P
mapped_some f None y h found = absurd (cc)
mapped_some f (Some x) y h found = found x refl (same_some (f x) y h)

pub chosen_input : (b : Bool) (x p : Input) → (if b then Some x else None) ≡ Some p → x ≡ p
chosen_input true x p h = same_some x p h
chosen_input false x p h = absurd (cc)

input_within : (globals : List Variable) (pair : PlainPair) (p : Input) → input_of globals pair ≡ Some p → p.number < length globals
input_within globals pair p h =
    option_and_then_some (λ n. option_and_then (input_at n pair) (slice_get globals n)) (find_global globals pair.name) p h
    (λ n found at. option_and_then_some (input_at n pair) (slice_get globals n) p at
    (λ g there is. subst (λ (q : Input). q.number < length globals) (chosen_input (is_input g.region) (record { number = n; kind = g.kind; given = pair.given }) p is) (slice_get_within globals n g there)))

pub inputs_within : (globals : List Variable) (pairs : List PlainPair) (inputs : List Input) → inputs_of globals pairs ≡ Some inputs → All (is_below (length globals)) inputs
inputs_within globals [] inputs h = subst (All (is_below (length globals))) (same_some [] inputs h) (All-nil (is_below (length globals)))
inputs_within globals (pair ∷ pairs) inputs h =
    let P = is_below (length globals) in
    option_and_then_some (λ input. option_map (λ rest. input ∷ rest) (inputs_of globals pairs)) (input_of globals pair) inputs h
    (λ input at is. mapped_some (λ rest. input ∷ rest) (inputs_of globals pairs) inputs is
    (λ rest others made. subst (All P) made (All-cons P input rest (input_within globals pair input at) (inputs_within globals pairs rest others))))

values_within : (n : ℕ) (inputs : List Input) (values : List (ℕ × Value)) → All (is_below n) inputs → values_of inputs ≡ Some values → All (has_number n) values
values_within n [] values below h = subst (All (has_number n)) (same_some [] values h) (All-nil (has_number n))
values_within n (p ∷ ps) values below h =
    let P = has_number n in
    option_and_then_some (λ v. option_map (λ rest. (p.number, v) ∷ rest) (values_of ps)) (fitted p.kind p.given) values h
    (λ v at is. mapped_some (λ rest. (p.number, v) ∷ rest) (values_of ps) values is
    (λ rest others made. subst (All P) made (All-cons P (p.number, v) rest (All-head (is_below n) p ps below) (values_within n ps rest (All-tail (is_below n) p ps below) others))))

-- an image by the values of its inputs, by the inputs, and an event by its image
abbrev by_values : Option (List (ℕ × Value)) → Result (List (ℕ × Value)) EngineFault
by_values o = elim o [ None ↦ Err refusal.ImageKind | Some values ↦ Ok values ]

abbrev by_inputs : Option (List Input) → Result (List (ℕ × Value)) EngineFault
by_inputs o = elim o [ None ↦ Err refusal.ImageName | Some inputs ↦ if has_twin inputs then Err refusal.ImageName else by_values (values_of inputs) ]

abbrev by_image : Bool → ℕ → Result (List (ℕ × Value)) EngineFault → Result Event EngineFault
by_image full t r = elim r [ Err e ↦ Err e | Ok image ↦ if full then Err refusal.HistoryFull else Ok (event.Scan image t) ]

all_valued : (o : Option (List (ℕ × Value))) (image : List (ℕ × Value)) → by_values o ≡ Ok image → o ≡ Some image
all_valued None image h = absurd (cc)
all_valued (Some values) image h = cc

none_twice : (b : Bool) (o : Option (List (ℕ × Value))) (image : List (ℕ × Value)) → (if b then Err refusal.ImageName else by_values o) ≡ Ok image → o ≡ Some image
none_twice true o image h = absurd (cc)
none_twice false o image h = all_valued o image h

no_twin : (b : Bool) (o : Option (List (ℕ × Value))) (image : List (ℕ × Value)) → (if b then Err refusal.ImageName else by_values o) ≡ Ok image → b ≡ false
no_twin true o image h = absurd (cc)
no_twin false o image h = refl

image_of_inputs : (n : ℕ) (o : Option (List Input)) (image : List (ℕ × Value)) → ((inputs : List Input) → o ≡ Some inputs → All (is_below n) inputs) → by_inputs o ≡ Ok image → All (has_number n) image
image_of_inputs n None image below h = absurd (cc)
image_of_inputs n (Some inputs) image below h = values_within n inputs image (below inputs refl) (none_twice (has_twin inputs) (values_of inputs) image h)

image_within : (globals : List Variable) (pairs : List PlainPair) (image : List (ℕ × Value)) → image_of globals pairs ≡ Ok image → All (has_number (length globals)) image
unfolding image_of
image_within globals pairs image h = image_of_inputs (length globals) (inputs_of globals pairs) image (inputs_within globals pairs) h

made_image : (full : Bool) (r : Result (List (ℕ × Value)) EngineFault) (t u : ℕ) (image : List (ℕ × Value)) → by_image full t r ≡ Ok (event.Scan image u) → r ≡ Ok image
made_image full (Err e) t u image h = absurd (cc)
made_image true (Ok i) t u image h = absurd (cc)
made_image false (Ok i) t u image h = cc

in_time : (late early full : Bool) (r : Result (List (ℕ × Value)) EngineFault) (t u : ℕ) (image : List (ℕ × Value))
    → (if late then Err refusal.MomentRange else if early then Err refusal.MomentBack else by_image full t r) ≡ Ok (event.Scan image u) → r ≡ Ok image
in_time true early full r t u image h = absurd (cc)
in_time false true full r t u image h = absurd (cc)
in_time false false full r t u image h = made_image full r t u image h

-- a scan that is taken has an image of globals
pub taken_within : (globals : List Variable) (last events : ℕ) (pairs : List PlainPair) (t u : ℕ) (image : List (ℕ × Value)) → taken_scan globals last events pairs t ≡ Ok (event.Scan image u) → All (has_number (length globals)) image
unfolding taken_scan
taken_within globals last events pairs t u image h =
    image_within globals pairs image (in_time (nat_lt LAST_MOMENT t) (nat_lt t last) (nat_le MOST_EVENTS events) (image_of globals pairs) t u image h)

room_left : (n t u : ℕ) (full : Bool) (r : Result (List (ℕ × Value)) EngineFault) (image : List (ℕ × Value)) → nat_le MOST_EVENTS n ≡ full → by_image full t r ≡ Ok (event.Scan image u) → n < MOST_EVENTS
room_left n t u full (Err e) image is h = absurd (cc)
room_left n t u true (Ok i) image is h = absurd (cc)
room_left n t u false (Ok i) image is h = grind (arith, nat_tests)

-- what a scan that is taken found: room in the history, a moment that isn't above the last of all, nor before the last scan's
pub record FoundTime (last n t : ℕ) : Type 0 where
  pub room : n < MOST_EVENTS
  pub in_range : t ≤ LAST_MOMENT
  pub forward : last ≤ t

when_taken : (last n t u : ℕ) (late early full : Bool) (r : Result (List (ℕ × Value)) EngineFault) (image : List (ℕ × Value)) → nat_lt LAST_MOMENT t ≡ late → nat_lt t last ≡ early → nat_le MOST_EVENTS n ≡ full
    → (if late then Err refusal.MomentRange else if early then Err refusal.MomentBack else by_image full t r) ≡ Ok (event.Scan image u) → FoundTime last n t
when_taken last n t u true early full r image far back is h = absurd (cc)
when_taken last n t u false true full r image far back is h = absurd (cc)
when_taken last n t u false false full r image far back is h = record { room = room_left n t u full r image is h; in_range = grind (arith, nat_tests); forward = grind (arith, nat_tests) }

pub taken_when : (globals : List Variable) (last events : ℕ) (pairs : List PlainPair) (t u : ℕ) (image : List (ℕ × Value)) → taken_scan globals last events pairs t ≡ Ok (event.Scan image u) → FoundTime last events t
unfolding taken_scan
taken_when globals last events pairs t u image h =
    when_taken last events t u (nat_lt LAST_MOMENT t) (nat_lt t last) (nat_le MOST_EVENTS events) (image_of globals pairs) image refl refl refl h

-- the inputs of an image that is given, none of them named twice, and its values
pub record GivenImage (globals : List Variable) (pairs : List PlainPair) (image : List (ℕ × Value)) : Type 0 where
  pub inputs : List Input
  pub inputs_are : inputs_of globals pairs ≡ Some inputs
  pub distinct : has_twin inputs ≡ false
  pub values_are : values_of inputs ≡ Some image

given_by : (globals : List Variable) (pairs : List PlainPair) (o : Option (List Input)) (image : List (ℕ × Value)) → inputs_of globals pairs ≡ o → by_inputs o ≡ Ok image → GivenImage globals pairs image
given_by globals pairs None image is h = absurd (cc)
given_by globals pairs (Some inputs) image is h = record { inputs = inputs; inputs_are = is; distinct = no_twin (has_twin inputs) (values_of inputs) image h; values_are = none_twice (has_twin inputs) (values_of inputs) image h }

image_given : (globals : List Variable) (pairs : List PlainPair) (image : List (ℕ × Value)) → image_of globals pairs ≡ Ok image → GivenImage globals pairs image
unfolding image_of
image_given globals pairs image h = given_by globals pairs (inputs_of globals pairs) image refl h

pub taken_image : (globals : List Variable) (last events : ℕ) (pairs : List PlainPair) (t u : ℕ) (image : List (ℕ × Value)) → taken_scan globals last events pairs t ≡ Ok (event.Scan image u) → GivenImage globals pairs image
unfolding taken_scan
taken_image globals last events pairs t u image h =
    image_given globals pairs image (in_time (nat_lt LAST_MOMENT t) (nat_lt t last) (nat_le MOST_EVENTS events) (image_of globals pairs) t u image h)

-- a crew's fault that is due shows in some count of faults
shows : {A : Type 0} (fault : CrewFault) (r : Result A EngineFault) → IsDue (refusal.Crew fault) r → ((n : ℕ) → faults_with n (refusal.Crew fault) ≡ n) → ⊥
shows crew_fault.Memory r due none = due
shows crew_fault.NoThread r due none = let e : 1 ≡ 0 = none 0 in omega (arith, e)
shows crew_fault.Lost r due none = let e : 1 ≡ 0 = none 0 in omega (arith, e)
shows crew_fault.Misfit r due none = let e : 1 ≡ 0 = none 0 in omega (arith, e)

refused_image : (e : EngineFault) (full : Bool) (t : ℕ) (r : Result (List (ℕ × Value)) EngineFault) → ((n : ℕ) → faults_with n e ≡ n) → IsDue e r → IsDue e (by_image full t r)
refused_image refusal.Memory full t r none due = tt
refused_image refusal.MomentBack full t r none due = ap (by_image full t) due
refused_image refusal.MomentRange full t r none due = ap (by_image full t) due
refused_image refusal.ImageName full t r none due = ap (by_image full t) due
refused_image refusal.ImageKind full t r none due = ap (by_image full t) due
refused_image (refusal.Crew fault) full t r none due = absurd (shows fault r due none)
refused_image refusal.HistoryFull full t r none due = ap (by_image full t) due
refused_image refusal.ReloadConsoles full t r none due = ap (by_image full t) due
refused_image refusal.ReloadEpoch full t r none due = ap (by_image full t) due

refused_in_time : (late early full : Bool) (r : Result (List (ℕ × Value)) EngineFault) (t : ℕ) (e : EngineFault) → late ≡ false → early ≡ false → ((n : ℕ) → faults_with n e ≡ n) → IsDue e r
    → IsDue e (if late then Err refusal.MomentRange else if early then Err refusal.MomentBack else by_image full t r)
refused_in_time true early full r t e within forward none due = absurd (cc)
refused_in_time false true full r t e within forward none due = absurd (cc)
refused_in_time false false full r t e within forward none due = refused_image e full t r none due

-- a refusal of the image in time, by no crew, is due of the scan
pub refused_scan : (globals : List Variable) (last events : ℕ) (pairs : List PlainPair) (t : ℕ) (e : EngineFault) → t ≤ LAST_MOMENT → last ≤ t → ((n : ℕ) → faults_with n e ≡ n) → IsDue e (image_of globals pairs)
    → IsDue e (taken_scan globals last events pairs t)
unfolding taken_scan
refused_scan globals last events pairs t e below after none due =
    let within : nat_lt LAST_MOMENT t ≡ false = grind (arith, nat_tests) in
    let forward : nat_lt t last ≡ false = grind (arith, nat_tests) in
    refused_in_time (nat_lt LAST_MOMENT t) (nat_lt t last) (nat_le MOST_EVENTS events) (image_of globals pairs) t e within forward none due
