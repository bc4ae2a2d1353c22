-- Of two looks the later shows no fewer entries.
use Rattle.std.proofs.Common.{◌≡◌, ℕ, ◌+◌, ◌≤◌, ◌++◌, length, List, Option, Some, None, refl, sym, ◌∙◌, ap, subst, length-append, arith}
use mathlib.Core.List.{IsPrefix}
use Rattle.console_boards.specs.Stories.{seen_events, IsSince}
use Rattle.console_operator.specs.declared.sight.Sight.{Sight}
use Rattle.console_operator.specs.declared.sight.Sight.TheVariants as sight
use Rattle.console_operator.specs.Sights.{BoardStory, seen_by, looked_at, IsSeenSince, HasOrders}

longer : {E : Type 0} (xs ys : List E) → IsPrefix xs ys → length xs ≤ length ys
longer xs ys p = omega (arith, sym (ap length p.1) ∙ length-append xs p.0)

-- who looks has seen that
seen_is_looked : (s : Sight) (story : BoardStory) → looked_at s ≡ Some story → seen_by s ≡ Some story
seen_is_looked (sight.Idle r) story h = absurd (cc (h))
seen_is_looked (sight.Looking g) story h = h

-- what is looked at goes on from what was seen
goes_on : (a b before told : Option BoardStory) (number count : ℕ) → (story : BoardStory) → a ≡ Some story → before ≡ Some story → IsSeenSince before told b → HasOrders number count b → seen_events a ≤ seen_events b
goes_on a None before told number count story is seen since orders = absurd orders
goes_on a (Some t) before told number count story is seen since orders =
    let on : IsSince (Some story) t = subst (λ (o : Option BoardStory). IsSince o t) seen since.0 in
    let less = longer story.1 t.1 on.1 in
    let many : seen_events a ≡ length story.1 = ap (λ (o : Option BoardStory). seen_events o) is in
    omega (arith, less, many)

none_has : (number count : ℕ) (story : Option BoardStory) → HasOrders number count story → (s : BoardStory) × (story ≡ Some s)
none_has number count None h = absurd h
none_has number count (Some s) h = (s, refl)

-- a look, the end of it, and another look
pub looks_on : (first second : Sight) (before told : Option BoardStory) (number count other later : ℕ) → HasOrders number count (looked_at first) → before ≡ seen_by first
    → IsSeenSince before told (looked_at second) → HasOrders other later (looked_at second) → seen_events (looked_at first) ≤ seen_events (looked_at second)
looks_on first second before told number count other later has left since orders =
    let story = none_has number count (looked_at first) has in
    goes_on (looked_at first) (looked_at second) before told other later story.0 story.1 (left ∙ seen_is_looked first story.0 story.1) since orders
