-- What a contract sees of a console, and of the owner's ends of its rings.
use Rattle.std.specs.Prelude.{◌≡◌, ℕ, ◌≤◌, List, [], Option, Some, None}
use mathlib.Core.List.{IsPrefix}
use Rattle.rtrb.specs.Ring.{sent, received, known_free, known_items, IsPair, all_sent, Finishes, IsFinishedOf, SameProducer, SameConsumer}
use Rattle.console_link.specs.declared.answer.Answer.{Answer}
use Rattle.console_link.specs.declared.console.ConsoleRings.{ConsoleRings}
use Rattle.console_link.specs.declared.console.FinishedRings.{FinishedRings}
use Rattle.console_link.specs.declared.lane.Lane.{Lane}

module _ {O R : Type 0} where
  -- every order that the console submitted, in order
  abbrev pub submitted : ConsoleRings O R → List O
  submitted c = sent c.orders

  -- every answer that it took, in order
  abbrev pub taken : ConsoleRings O R → List (Answer O R)
  taken c = received c.answers

  -- how many places for orders it knows to be free
  abbrev pub known_room : ConsoleRings O R → ℕ
  known_room c = known_free c.orders

  -- every order that the owner took, in order
  abbrev pub orders_taken : Lane O R → List O
  orders_taken l = received l.orders

  -- the orders that the owner knows to wait
  abbrev pub orders_known : Lane O R → List O
  orders_known l = known_items l.orders

  -- every answer that the owner gave, in order
  abbrev pub answers_given : Lane O R → List (Answer O R)
  answers_given l = sent l.answers

  -- how many places for answers the owner knows to be free
  abbrev pub answer_room : Lane O R → ℕ
  answer_room l = known_free l.answers

  -- the console hasn't ended, as far as the owner knows
  abbrev pub IsOpen : Lane O R → Type 0
  IsOpen l = l.ended ≡ None

  -- the orders that were left when the console ended, in order; none before
  abbrev pub left_of : Lane O R → List O
  left_of l = elim l.ended [ None ↦ [] | Some _ ↦ known_items l.orders ]

  -- the answers that were left when the console ended, in order; none before
  abbrev pub left_answers_of : Lane O R → List (Answer O R)
  left_answers_of l = elim l.ended [ None ↦ [] | Some f ↦ known_items f.answers ]

  -- how many events the console saw, once it has ended
  abbrev pub seen_by : Lane O R → Option ℕ
  seen_by l = elim l.ended [ None ↦ None | Some f ↦ Some f.seen ]

  -- the same number, the same two rings, and the same log
  abbrev pub SameConsole : ConsoleRings O R → ConsoleRings O R → Type 0
  SameConsole a b = (b.number ≡ a.number) × (SameProducer a.orders b.orders × SameConsumer a.answers b.answers) × (b.log ≡ a.log)

  abbrev pub SameLane : Lane O R → Lane O R → Type 0
  SameLane a b = (b.number ≡ a.number) × (SameConsumer a.orders b.orders × SameProducer a.answers b.answers) × (b.log ≡ a.log)

  -- the lane is the owner's end of this console's rings
  abbrev pub IsConsoleOf : ConsoleRings O R → Lane O R → Type 0
  IsConsoleOf c l = (l.number ≡ c.number) × (IsPair c.orders l.orders × IsPair l.answers c.answers) × (l.log ≡ c.log)

  -- the lane is the owner's end of the rings of this console, which has ended
  abbrev pub IsEndOf : FinishedRings O R → Lane O R → Type 0
  IsEndOf f l = (l.number ≡ f.number) × (IsFinishedOf f.orders l.orders × IsPair l.answers f.answers) × (l.log ≡ f.log)

  -- every order that a console submitted, and every answer that it took, before it ended
  abbrev pub all_submitted : FinishedRings O R → List O
  all_submitted f = all_sent f.orders

  abbrev pub all_taken : FinishedRings O R → List (Answer O R)
  all_taken f = received f.answers

  -- the console ended as this one, with the same number, the same rings and the same log
  abbrev pub Ends : ConsoleRings O R → FinishedRings O R → Type 0
  Ends c f = (f.number ≡ c.number) × (Finishes c.orders f.orders × (f.answers ≡ c.answers)) × (f.log ≡ c.log)

  -- nothing was taken or given, and no more is known than before
  abbrev pub LaneLooked : Lane O R → Lane O R → Type 0
  LaneLooked a b =
      SameLane a b × (orders_taken b ≡ orders_taken a) × (answers_given b ≡ answers_given a) × IsPrefix (orders_known a) (orders_known b)
      × (answer_room a ≤ answer_room b)
