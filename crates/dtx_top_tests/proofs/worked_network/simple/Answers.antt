use Rattle.std.proofs.Common.{◌≡◌, ◌≤◌, ℕ, List, [], ◌∷◌, length, refl, sym, ap, ap₂, ◌∙◌, arith}
use Rattle.std.specs.Prelude.{Some, slice_get}
use Rattle.std.proofs.lemmas.Option.{get_or_from_slice_get}
use Rattle.dtx_plan.specs.declared.event.Event.{Event}
use Rattle.dtx_plan.specs.declared.event.Event.TheVariants.{Send}
use Rattle.dtx_top.specs.WorkedNetwork.{made_packets}
use Rattle.dtx_top_tests.proofs.worked_network.simple.Goals as goal

-- a list of two
two_events : (xs : List Event) (x y : Event) → length xs ≡ 2 → slice_get xs 0 ≡ Some x → slice_get xs 1 ≡ Some y
    → xs ≡ x ∷ y ∷ []
two_events [] x y l e f = absurd (omega (arith, l))
two_events (a ∷ []) x y l e f = absurd (omega (arith, l))
two_events (a ∷ b ∷ []) x y l e f =
    ap₂ (λ (u v : Event). u ∷ v ∷ []) (get_or_from_slice_get (a ∷ b ∷ []) 0 x x e)
    (get_or_from_slice_get (a ∷ b ∷ []) 1 y y f)
two_events (a ∷ b ∷ c ∷ xs) x y l e f = absurd (omega (arith, l))

pub returns-clause-simple : goal.returns-clause-simple
returns-clause-simple c =
    let count : length (made_packets 1 c.args.count) ≡ c.args.count =
    c.made_packets_are_a_stream.ensures.count 1 c.args.count in
    let some : 372 ≤ c.args.count = omega (arith, c.if-count-lt372.false) in
    let two : length c.args.network.now.events ≡ 2 = omega (arith, c.if-len-ne2.false, c.len-2.ensures) in
    record {
      few = omega (arith, c.if-len-gt-MOST_ENTRIES.false, c.len.ensures);
      first = c.in_ok-first.ensures.listed;
      second = c.in_ok-second.ensures.listed;
      in_time = c.in_ok-first.ensures.in_time;
      other_in_time = c.in_ok-second.ensures.in_time;
      differ = λ e. absurd (omega (arith, c.if-first-second.false, e));
      events = two_events c.args.network.now.events c.get.result c.get-2.result two c.get.ensures c.get-2.ensures
          ∙ ap₂ (λ (u v : Event). u ∷ v ∷ []) c.in_ok-first.ensures.event c.in_ok-second.ensures.event
          ∙ ap (λ (n : ℕ). Send c.in_ok-first.first.address 0 n ∷ Send c.in_ok-second.second.address 0 n ∷ [])
          (sym count);
      order = c.made_packets_are_a_stream.ensures.order 1 c.args.count (omega (arith, some));
      long = omega (arith, some, count);
      received = c.if-not-receives.ensures refl;
    }
