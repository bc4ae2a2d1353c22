-- Declarations, blocks, programs and units that are read are spelled.
use Rattle.std.proofs.Common.{◌≡◌, ℕ, ◌<◌, Bool, true, List, [], ◌∷◌, ◌++◌, append_assoc, append-nil, drop, length, Option, Some, None, refl, sym, ap, ◌∙◌, subst, arith, inl, inr}
use Rattle.st_lexer.specs.declared.token.Keyword.TheVariants as k
use Rattle.plant_types.specs.declared.values.Region.{Region}
use Rattle.st_lexer.specs.declared.token.Symbol.TheVariants as s
use Rattle.st_tree.specs.Plain.{PlainExpr}
use Rattle.st_expressions.specs.Lexemes.{Lexeme, word, keyword, address, symbol}
use Rattle.st_expressions.specs.Phrases.{Perhaps, After, listed}
use Rattle.st_expressions.specs.Grammar.{IsExpression}
use Rattle.st_parser.specs.Declarations.{IsName, kind_of_word, sort_of, IsBounds, between, IsSort, simple, array, Declares, declaration, DeclaresGlobal, placed, anywhere, Globals, globals, section_of, IsSection, variables, opening_keyword, closing_keyword, IsPou, organised, SpellsUnit, unit}
use Rattle.st_expressions.specs.Reading.{word_at, is_symbol, is_keyword, is_word, symbol_at, keyword_at, with_first, all_at, perhaps_at, after_symbol, others_at, table_at, expression_at}
use Rattle.st_parser.specs.ReadingStatements.{number_at, body_at}
use Rattle.st_parser.specs.ReadingUnits.{address_at, limits_at, array_at, sort_at, initial_at, declared_at, placed_at, declaration_at, global_at, globals_at, is_section, section_at, pou_of, is_pou, pou_at, unit_at}
use Rattle.st_parser.specs.Units.{PlainDeclaration, PlainUnit}
use Rattle.st_parser.specs.declared.unit.PouKind.{PouKind}
use Rattle.st_parser.specs.declared.unit.SectionKind.TheVariants as section
use Rattle.st_parser.specs.declared.unit.Sort.{Sort}
use Rattle.st_parser.specs.declared.unit.Sort.TheVariants as sort
use Rattle.st_parser.proofs.FoundStatements.{chosen, left_out, number_found, body_found}
use Rattle.st_expressions.proofs.Many.{Front, Finds, turned, with_first_some, all_found, perhaps_found, after_symbol_found, others_found, two_parts}
use Rattle.st_parser.proofs.ReadUnits.{unit_read}
use Rattle.st_expressions.proofs.Sound.{expression_found}
use Rattle.st_expressions.proofs.Steps.{true_or_false, bind_some, same_some, word_found, symbol_found, keyword_found, next_is_keyword}

abbrev anything : List Lexeme → Bool
anything ts = true

-- a lexeme that a table knows
record Told {A : Type 0} (table : Lexeme → Option A) (ts : List Lexeme) (a : A) (rest : List Lexeme) : Type 0 where
  pub t : Lexeme
  pub whole : ts ≡ t ∷ rest
  pub is : table t ≡ Some a

told_found : {A : Type 0} (table : Lexeme → Option A) (ts : List Lexeme) (a : A) (rest : List Lexeme) → table_at table ts ≡ Some (a, rest) → Told table ts a rest
told_found table [] a rest h = absurd (cc)
told_found {A} table (t ∷ ts) a rest h =
    let on : A → Option (A × List Lexeme) = λ a. Some (a, ts) in
    let (b, was, is) = bind_some (table t) on (a, rest) h in
    let here : Told table (t ∷ ts) b ts = record { t = t; whole = refl; is = was } in
    subst (λ (r : A × List Lexeme). Told table (t ∷ ts) r.0 r.1) (same_some _ _ is) here

address_found : (ts : List Lexeme) (r : Region) (rest : List Lexeme) → address_at ts ≡ Some (r, rest) → ts ≡ address r ∷ rest
address_found (address q ∷ ts) r rest h = ap (λ (p : Region × List Lexeme). address p.0 ∷ p.1) (same_some _ _ h)
address_found [] r rest h = absurd (cc)
address_found (_ ∷ ts) r rest h = absurd (cc)

-- ---- declarations
-- an initial value and the semicolon
record Tail (names : List (List ℕ)) (region : Option Region) (what : Sort) (ts : List Lexeme) (d : PlainDeclaration) (rest : List Lexeme) : Type 0 where
  pub initial : Option (PlainExpr (List ℕ))
  pub front : List Lexeme
  pub whole : ts ≡ front ++ symbol s.Semicolon ∷ rest
  pub value : Perhaps (After (symbol s.Becomes) IsExpression) front initial
  pub is : d ≡ record { names = names; region = region; sort = what; initial = initial }

initial_found : (names : List (List ℕ)) (region : Option Region) (what : Sort) (ts : List Lexeme) (d : PlainDeclaration) (rest : List Lexeme) → initial_at names region what ts ≡ Some (d, rest) → Tail names region what ts d rest
unfolding initial_at
initial_found names region what ts d rest h =
    let (initial, was_initial, h1) = bind_some (perhaps_at (is_symbol s.Becomes) (after_symbol s.Becomes expression_at) ts) _ (d, rest) h in
    let (left, was_left, is) = bind_some (symbol_at s.Semicolon initial.1) _ (d, rest) h1 in
    let f = perhaps_found (After (symbol s.Becomes) IsExpression) (is_symbol s.Becomes) anything (after_symbol s.Becomes expression_at) (after_symbol_found IsExpression anything expression_at s.Becomes expression_found) ts initial.0 initial.1 was_initial in
    let e1 = symbol_found s.Semicolon initial.1 left was_left in
    let here : Tail names region what ts (record { names = names; region = region; sort = what; initial = initial.0 }) left = record {
      initial = initial.0;
      front = f.front;
      whole = f.whole ∙ ap (λ l. f.front ++ l) e1;
      value = f.spelled;
      is = refl;
    } in
    subst (λ (r : PlainDeclaration × List Lexeme). Tail names region what ts r.0 r.1) (same_some _ _ is) here

word_finds : Finds IsName word_at
word_finds ts name rest h = record { front = word name ∷ []; whole = word_found ts (name, rest) h; spelled = refl }

limits_whole : (x y ts opened u dots v left : List Lexeme) → ts ≡ symbol s.OpenBracket ∷ opened → opened ≡ x ++ u → u ≡ symbol s.Range ∷ dots → dots ≡ y ++ v → v ≡ symbol s.CloseBracket ∷ left
    → ts ≡ (symbol s.OpenBracket ∷ (x ++ symbol s.Range ∷ (y ++ symbol s.CloseBracket ∷ []))) ++ left
limits_whole x y ts opened u dots v left e0 e1 e2 e3 e4 =
    rw (e0, e1, e2, e3, e4, append_assoc x (symbol s.Range ∷ (y ++ symbol s.CloseBracket ∷ [])) left, append_assoc y (symbol s.CloseBracket ∷ []) left) refl

limits_found : Finds IsBounds limits_at
unfolding limits_at
limits_found ts bounds rest h =
    let (opened, was_opened, h1) = bind_some (symbol_at s.OpenBracket ts) _ (bounds, rest) h in
    let (low, was_low, h2) = bind_some (number_at opened) _ (bounds, rest) h1 in
    let (dots, was_dots, h3) = bind_some (symbol_at s.Range low.1) _ (bounds, rest) h2 in
    let (high, was_high, h4) = bind_some (number_at dots) _ (bounds, rest) h3 in
    let (left, was_left, is) = bind_some (symbol_at s.CloseBracket high.1) _ (bounds, rest) h4 in
    let f = number_found opened low.0 low.1 was_low in
    let g = number_found dots high.0 high.1 was_high in
    turned IsBounds ts (record { low = low.0; high = high.0 }, left) (bounds, rest) is record {
      front = symbol s.OpenBracket ∷ (f.front ++ symbol s.Range ∷ (g.front ++ symbol s.CloseBracket ∷ []));
      whole = limits_whole f.front g.front ts opened low.1 dots high.1 left (symbol_found s.OpenBracket ts opened was_opened) f.whole (symbol_found s.Range low.1 dots was_dots) g.whole (symbol_found s.CloseBracket high.1 left was_left);
      spelled = between low.0 high.0 f.front g.front f.spelled g.spelled refl refl;
    }

array_whole : (x ts u inside left : List Lexeme) (t : Lexeme) → ts ≡ x ++ u → u ≡ keyword k.Of ∷ inside → inside ≡ t ∷ left → keyword k.Array ∷ ts ≡ (keyword k.Array ∷ (x ++ keyword k.Of ∷ t ∷ [])) ++ left
array_whole x ts u inside left t e0 e1 e2 = rw (e0, e1, e2) (ap (λ l. keyword k.Array ∷ l) (sym (append_assoc x (keyword k.Of ∷ t ∷ []) left)))

array_found : (ts : List Lexeme) (what : Sort) (rest : List Lexeme) → array_at ts ≡ Some (what, rest) → Front IsSort (keyword k.Array ∷ ts) what rest
unfolding array_at
array_found ts what rest h =
    let (bounds, was_bounds, h1) = bind_some (limits_at ts) _ (what, rest) h in
    let (inside, was_inside, h2) = bind_some (keyword_at k.Of bounds.1) _ (what, rest) h1 in
    let (kind, was_kind, is) = bind_some (table_at kind_of_word inside) _ (what, rest) h2 in
    let f = limits_found ts bounds.0 bounds.1 was_bounds in
    let t = told_found kind_of_word inside kind.0 kind.1 was_kind in
    turned IsSort (keyword k.Array ∷ ts) (sort.Array bounds.0 kind.0, kind.1) (what, rest) is record {
      front = keyword k.Array ∷ (f.front ++ keyword k.Of ∷ t.t ∷ []);
      whole = array_whole f.front ts bounds.1 inside kind.1 t.t f.whole (keyword_found k.Of bounds.1 inside was_inside) t.whole;
      spelled = array bounds.0 t.t kind.0 f.front f.spelled t.is refl refl;
    }

sort_found : Finds IsSort sort_at
unfolding sort_at
sort_found ts what rest h =
    elim (true_or_false (is_keyword k.Array ts)) as (λ _. Front IsSort ts what rest) [
      | inl yes' ↦ subst (λ l. Front IsSort l what rest) (sym (next_is_keyword k.Array ts yes')) (array_found (drop 1 ts) what rest (chosen _ _ _ (what, rest) yes' h))
      | inr no' ↦ let t = told_found sort_of ts what rest (left_out _ _ _ (what, rest) no' h) in record { front = t.t ∷ []; whole = t.whole; spelled = simple t.t t.is refl }
    ]

declared_whole : (name : List ℕ) (x w y ts r colon rest v : List Lexeme) → ts ≡ x ++ r → r ≡ symbol s.Colon ∷ colon → colon ≡ w ++ v → v ≡ y ++ symbol s.Semicolon ∷ rest
    → word name ∷ ts ≡ ((word name ∷ [] ++ x) ++ symbol s.Colon ∷ (w ++ (y ++ symbol s.Semicolon ∷ []))) ++ rest
declared_whole name x w y ts r colon rest v e0 e1 e2 e3 =
    rw (e0, e1, e2, e3) (ap (λ l. word name ∷ l) (sym (append_assoc x (symbol s.Colon ∷ (w ++ (y ++ symbol s.Semicolon ∷ []))) rest ∙ ap (λ l. x ++ symbol s.Colon ∷ l) (two_parts w y (symbol s.Semicolon) rest))))

declared_found : (name : List ℕ) (ts : List Lexeme) (d : PlainDeclaration) (rest : List Lexeme) → declared_at name ts ≡ Some (d, rest) → Front Declares (word name ∷ ts) d rest
unfolding declared_at
declared_found name ts d rest h =
    let (names, was_names, h1) = bind_some (with_first (name ∷ []) (others_at word_at ts)) _ (d, rest) h in
    let (others, was_others, same) = with_first_some (name ∷ []) (others_at word_at ts) names was_names in
    let (colon, was_colon, h2) = bind_some (symbol_at s.Colon names.1) _ (d, rest) h1 in
    let (what, was_what, h3) = bind_some (sort_at colon) _ (d, rest) h2 in
    let f = others_found IsName anything word_at word_finds ts others.0 others.1 was_others in
    let e1 = ap (λ (r : List (List ℕ) × List Lexeme). r.1) same ∙ symbol_found s.Colon names.1 colon was_colon in
    let t = sort_found colon what.0 what.1 was_what in
    let i = initial_found (name ∷ others.0) None what.0 what.1 d rest (ap (λ (r : List (List ℕ) × List Lexeme). initial_at r.0 None what.0 what.1) same ∙ h3) in
    let words = word name ∷ f.front in
    record {
      front = words ++ symbol s.Colon ∷ (t.front ++ (i.front ++ symbol s.Semicolon ∷ []));
      whole = declared_whole name f.front t.front i.front ts others.1 colon rest what.1 f.whole e1 t.whole i.whole;
      spelled = declaration (name ∷ others.0) what.0 i.initial words t.front i.front (listed name others.0 (word name ∷ []) f.front refl f.spelled refl refl) t.spelled i.value refl i.is;
    }

placed_whole : (name : List ℕ) (r : Region) (t : Lexeme) (y ts v colon w rest : List Lexeme) → ts ≡ address r ∷ v → v ≡ symbol s.Colon ∷ colon → colon ≡ t ∷ w → w ≡ y ++ symbol s.Semicolon ∷ rest
    → word name ∷ keyword k.At ∷ ts ≡ (word name ∷ keyword k.At ∷ address r ∷ symbol s.Colon ∷ t ∷ (y ++ symbol s.Semicolon ∷ [])) ++ rest
placed_whole name r t y ts v colon w rest e0 e1 e2 e3 =
    rw (e0, e1, e2, e3) (ap (λ l. word name ∷ keyword k.At ∷ address r ∷ symbol s.Colon ∷ t ∷ l) (sym (append_assoc y (symbol s.Semicolon ∷ []) rest)))

placed_found : (name : List ℕ) (ts : List Lexeme) (d : PlainDeclaration) (rest : List Lexeme) → placed_at name ts ≡ Some (d, rest) → Front DeclaresGlobal (word name ∷ keyword k.At ∷ ts) d rest
unfolding placed_at
placed_found name ts d rest h =
    let (region, was_region, h1) = bind_some (address_at ts) _ (d, rest) h in
    let (colon, was_colon, h2) = bind_some (symbol_at s.Colon region.1) _ (d, rest) h1 in
    let (what, was_what, h3) = bind_some (table_at kind_of_word colon) _ (d, rest) h2 in
    let e0 = address_found ts region.0 region.1 was_region in
    let e1 = symbol_found s.Colon region.1 colon was_colon in
    let t = told_found kind_of_word colon what.0 what.1 was_what in
    let i = initial_found (name ∷ []) (Some region.0) (sort.Kind what.0) what.1 d rest h3 in
    record {
      front = word name ∷ keyword k.At ∷ address region.0 ∷ symbol s.Colon ∷ t.t ∷ (i.front ++ symbol s.Semicolon ∷ []);
      whole = placed_whole name region.0 t.t i.front ts region.1 colon what.1 rest e0 e1 t.whole i.whole;
      spelled = placed name region.0 t.t what.0 i.initial i.front t.is i.value refl i.is;
    }

declaration_found : Finds Declares declaration_at
unfolding declaration_at
declaration_found ts d rest h =
    let (name, was_name, h1) = bind_some (word_at ts) _ (d, rest) h in
    subst (λ l. Front Declares l d rest) (sym (word_found ts name was_name)) (declared_found name.0 name.1 d rest h1)

global_found : Finds DeclaresGlobal global_at
unfolding global_at
global_found ts d rest h =
    let (name, was_name, h1) = bind_some (word_at ts) _ (d, rest) h in
    let e0 = word_found ts name was_name in
    let inside : Front DeclaresGlobal (word name.0 ∷ name.1) d rest =
    elim (true_or_false (is_keyword k.At name.1)) as (λ _. Front DeclaresGlobal (word name.0 ∷ name.1) d rest) [
      | inl yes' ↦ subst (λ l. Front DeclaresGlobal (word name.0 ∷ l) d rest) (sym (next_is_keyword k.At name.1 yes')) (placed_found name.0 (drop 1 name.1) d rest (chosen _ _ _ (d, rest) yes' h1))
      | inr no' ↦ let f = declared_found name.0 name.1 d rest (left_out _ _ _ (d, rest) no' h1) in record { front = f.front; whole = f.whole; spelled = anywhere f.spelled }
    ] in
    subst (λ l. Front DeclaresGlobal l d rest) (sym e0) inside

-- ---- sections
globals_found : Finds Globals globals_at
unfolding globals_at
globals_found ts sec rest h =
    let (inside, was_inside, h1) = bind_some (keyword_at k.VarGlobal ts) _ (sec, rest) h in
    let (all, was_all, h2) = bind_some (all_at is_word global_at inside) _ (sec, rest) h1 in
    let (left, was_left, is) = bind_some (keyword_at k.EndVar all.1) _ (sec, rest) h2 in
    let e0 = keyword_found k.VarGlobal ts inside was_inside in
    let f = all_found DeclaresGlobal is_word anything global_at global_found inside all.0 all.1 was_all in
    let e1 = keyword_found k.EndVar all.1 left was_left in
    turned Globals ts (record { kind = section.Global; declarations = all.0 }, left) (sec, rest) is record {
      front = keyword k.VarGlobal ∷ (f.front ++ keyword k.EndVar ∷ []);
      whole = e0 ∙ ap (λ l. keyword k.VarGlobal ∷ l) (f.whole ∙ ap (λ l. f.front ++ l) e1 ∙ sym (append_assoc f.front (keyword k.EndVar ∷ []) left));
      spelled = globals all.0 f.front f.spelled refl refl;
    }

section_found : (kind : PouKind) → Finds (IsSection kind) (section_at kind)
unfolding section_at
section_found kind ts sec rest h =
    let (what, was_what, h1) = bind_some (table_at (section_of kind) ts) _ (sec, rest) h in
    let (all, was_all, h2) = bind_some (all_at is_word declaration_at what.1) _ (sec, rest) h1 in
    let (left, was_left, is) = bind_some (keyword_at k.EndVar all.1) _ (sec, rest) h2 in
    let t = told_found (section_of kind) ts what.0 what.1 was_what in
    let f = all_found Declares is_word anything declaration_at declaration_found what.1 all.0 all.1 was_all in
    let e1 = keyword_found k.EndVar all.1 left was_left in
    turned (IsSection kind) ts (record { kind = what.0; declarations = all.0 }, left) (sec, rest) is record {
      front = t.t ∷ (f.front ++ keyword k.EndVar ∷ []);
      whole = t.whole ∙ ap (λ l. t.t ∷ l) (f.whole ∙ ap (λ l. f.front ++ l) e1 ∙ sym (append_assoc f.front (keyword k.EndVar ∷ []) left));
      spelled = variables t.t what.0 all.0 f.front t.is f.spelled refl refl;
    }

-- ---- blocks and programs
opened : (t : Lexeme) (kind : PouKind) → pou_of t ≡ Some kind → t ≡ keyword (opening_keyword kind)
opened (keyword k.FunctionBlock) kind h = ap (λ x. keyword (opening_keyword x)) (same_some _ _ h)
opened (keyword k.Program) kind h = ap (λ x. keyword (opening_keyword x)) (same_some _ _ h)
opened _ kind h = absurd (cc)

pou_whole : (o c t : Lexeme) (name : List ℕ) (f g ts w v u r left : List Lexeme) → t ≡ o → ts ≡ t ∷ w → w ≡ word name ∷ v → v ≡ f ++ u → u ≡ g ++ r → r ≡ c ∷ left → ts ≡ (o ∷ word name ∷ (f ++ (g ++ c ∷ []))) ++ left
pou_whole o c t name f g ts w v u r left e e0 e1 e2 e3 e4 = rw (e0, e, e1, e2, e3, e4) (ap (λ l. o ∷ word name ∷ l) (sym (two_parts f g c left)))

pou_found : Finds IsPou pou_at
unfolding pou_at
pou_found ts p rest h =
    let (kind, was_kind, h0) = bind_some (table_at pou_of ts) _ (p, rest) h in
    let (name, was_name, h1) = bind_some (word_at kind.1) _ (p, rest) h0 in
    let (sections, was_sections, h2) = bind_some (all_at (is_section kind.0) (section_at kind.0) name.1) _ (p, rest) h1 in
    let (body, was_body, h3) = bind_some (body_at sections.1) _ (p, rest) h2 in
    let (left, was_left, is) = bind_some (keyword_at (closing_keyword kind.0) body.1) _ (p, rest) h3 in
    let t = told_found pou_of ts kind.0 kind.1 was_kind in
    let e1 = word_found kind.1 name was_name in
    let f = all_found (IsSection kind.0) (is_section kind.0) anything (section_at kind.0) (section_found kind.0) name.1 sections.0 sections.1 was_sections in
    let g = body_found sections.1 body.0 body.1 was_body in
    let e2 = keyword_found (closing_keyword kind.0) body.1 left was_left in
    turned IsPou ts (record { kind = kind.0; name = name.0; sections = sections.0; body = body.0 }, left) (p, rest) is record {
      front = keyword (opening_keyword kind.0) ∷ word name.0 ∷ (f.front ++ (g.front ++ keyword (closing_keyword kind.0) ∷ []));
      whole = pou_whole (keyword (opening_keyword kind.0)) (keyword (closing_keyword kind.0)) t.t name.0 f.front g.front ts kind.1 name.1 sections.1 body.1 left (opened t.t kind.0 t.is) t.whole e1 f.whole g.whole e2;
      spelled = organised kind.0 name.0 sections.0 body.0 f.front g.front f.spelled g.spelled refl refl;
    }

-- ---- units
unit_found : (ts : List Lexeme) (u : PlainUnit) (rest : List Lexeme) → unit_at ts ≡ Some (u, rest) → Front SpellsUnit ts u rest
unfolding unit_at
unit_found ts u rest h =
    let (gs, was_gs, h1) = bind_some (all_at (is_keyword k.VarGlobal) globals_at ts) _ (u, rest) h in
    let (ps, was_ps, is) = bind_some (all_at is_pou pou_at gs.1) _ (u, rest) h1 in
    let f = all_found Globals (is_keyword k.VarGlobal) anything globals_at globals_found ts gs.0 gs.1 was_gs in
    let g = all_found IsPou is_pou anything pou_at pou_found gs.1 ps.0 ps.1 was_ps in
    turned SpellsUnit ts (record { globals = gs.0; pous = ps.0 }, ps.1) (u, rest) is record {
      front = f.front ++ g.front;
      whole = f.whole ∙ ap (λ l. f.front ++ l) g.whole ∙ sym (append_assoc f.front g.front ps.1);
      spelled = unit gs.0 ps.0 f.front g.front f.spelled g.spelled refl refl;
    }

nothing : (l : List Lexeme) → length l ≡ 0 → l ≡ []
nothing [] h = refl
nothing (x ∷ l) h = absurd (omega arith)

-- what a whole text says
pub unit_spelled : (ts rest : List Lexeme) (u : PlainUnit) → unit_at ts ≡ Some (u, rest) → length rest ≡ 0 → SpellsUnit ts u
unit_spelled ts rest u h none =
    let f = unit_found ts u rest h in
    let all : f.front ≡ ts = sym (append-nil f.front) ∙ ap (λ l. f.front ++ l) (sym (nothing rest none)) ∙ sym f.whole in
    subst (λ l. SpellsUnit l u) all f.spelled

pub some_left : (ts rest : List Lexeme) (u other : PlainUnit) → unit_at ts ≡ Some (u, rest) → 0 < length rest → SpellsUnit ts other → ⊥
some_left ts rest u other h some p =
    let last : rest ≡ [] = ap (λ (r : PlainUnit × List Lexeme). r.1) (same_some _ _ (sym h ∙ unit_read ts other p)) in
    let none = ap length last in
    omega arith

pub none_read : (ts : List Lexeme) (u : PlainUnit) → unit_at ts ≡ None → SpellsUnit ts u → ⊥
none_read ts u h p = let is = unit_read ts u p in cc

pub one_unit : (ts : List Lexeme) (a b : PlainUnit) → SpellsUnit ts a → SpellsUnit ts b → a ≡ b
one_unit ts a b p q = ap (λ (r : PlainUnit × List Lexeme). r.0) (same_some _ _ (sym (unit_read ts a p) ∙ unit_read ts b q))
