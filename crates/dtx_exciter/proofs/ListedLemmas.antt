-- Under the orders of a feed, from one on that lists a transmitter, the transmitter is served.
use Rattle.std.proofs.Common.{◌≡◌, ℕ, ℤ, ◌==◌, Bool, true, false, Option, Some, None, List, ◌∷◌, refl, ap, ◌∙◌, arith}
use Rattle.std.specs.Prelude.{is_ok, is_some, option_and_then}
use Rattle.std.proofs.lemmas.Bool.{cond-false, ne_eqb, false≢true}
use Rattle.std.proofs.lemmas.Int.{ints}
use Rattle.dtx_ops.specs.declared.fields.Entry.{Entry}
use Rattle.dtx_exciter.specs.Order.{Order, counting_order}
use Rattle.dtx_exciter.specs.Pages.{page, pages, entry_of, lists, of_one_cycle, listing, entry_in_force}
use Rattle.dtx_exciter.specs.Told.{served}
use Rattle.dtx_exciter.specs.Packets.{readings}
use Rattle.dtx_exciter.specs.Lockstep.{IsFeed}
use Rattle.dtx_exciter.proofs.PagesLemmas.{cycle_same, listing_here, listing_other, forgotten}

-- the entry in force is that of an order of the feed
pub record IsListed (a : ℕ) (feed : List (List ℕ)) (r : List Order) : Type 0 where
  pub latest : Order
  pub group : ℕ
  pub is : listing a (of_one_cycle r) ≡ Some latest
  pub its_own : counting_order (readings feed) group ≡ Some latest.ops
  pub listed : lists a latest.ops ≡ true

pub listed_here : (a : ℕ) (feed : List (List ℕ)) (g : ℕ) (o : Order) (r : List Order)
    → counting_order (readings feed) g ≡ Some o.ops → lists a o.ops ≡ true → IsListed a feed (o ∷ r)
listed_here a feed g o r c h = grind (arith, listing_here)

pub listed_next : (a d : ℕ) (z : ℤ) (feed : List (List ℕ)) (g h : ℕ) (o l : Order) (r : List Order)
    → IsFeed a d z feed → counting_order (readings feed) g ≡ Some o.ops → counting_order (readings feed) h ≡ Some l.ops
    → IsListed a feed (l ∷ r) → IsListed a feed (o ∷ l ∷ r)
listed_next a d z feed g h o l r f c e w = by_test (lists a o.ops) refl
  where
    by_test : (t : Bool) → lists a o.ops ≡ t → IsListed a feed (o ∷ l ∷ r)
    by_test true t = listed_here a feed g o (l ∷ r) c t
    by_test false t = record {
      latest = w.latest;
      group = w.group;
      is = ap (listing a) (cycle_same o l r (f.pages g h o.ops l.ops c e))
          ∙ listing_other a o (of_one_cycle (l ∷ r)) t ∙ ap (forgotten (page o)) w.is
          ∙ cond-false (page o == page w.latest) None (Some w.latest) (grind (arith, ne_eqb, false≢true));
      its_own = w.its_own;
      listed = w.listed;
    }

-- ---- it is served, with the offset

pub record IsServed (a d : ℕ) (z : ℤ) (r : List Order) : Type 0 where
  pub entry : Entry
  pub is : entry_in_force a r ≡ Some entry
  pub offset : entry.offset ≡ z
  pub ok : is_ok (served a d r) ≡ true

some_of : (o : Option Entry) → is_some o ≡ true → (e : Entry) × (o ≡ Some e)
some_of None h = absurd (false≢true h)
some_of (Some e) h = (e, refl)

pub served_by_feed : (a d : ℕ) (z : ℤ) (feed : List (List ℕ)) (g : ℕ) (l : Order) (r : List Order) → IsFeed a d z feed
    → counting_order (readings feed) g ≡ Some l.ops → IsListed a feed (l ∷ r) → IsServed a d z (l ∷ r)
unfolding entry_in_force served
served_by_feed a d z feed g l r f c w =
    let e = some_of (entry_of a w.latest.ops) w.listed in
    let is : entry_in_force a (l ∷ r) ≡ Some e.0 = ap (option_and_then (λ o. entry_of a o.ops)) w.is ∙ e.1 in
    let offset : e.0.offset ≡ z = f.entry w.group w.latest.ops e.0 w.its_own e.1 in
    let most = f.serves g l.ops c in
    record {
      entry = e.0;
      is = is;
      offset = offset;
      ok = grind (arith, ints);
    }
