-- A feeder that is given a group more.
use Rattle.std.proofs.Common.{◌≡◌, ℕ, ◌+◌, ◌%◌, ◌≤◌, List, [], ◌++◌, length, take, drop, refl, sym, ap, subst, ◌∙◌}
use Rattle.std.proofs.Common.{arith}
use Rattle.std.proofs.lemmas.List.{append_assoc, append-nil, drop-drop}
use Rattle.std.proofs.lemmas.Slice.{take-put_mid, drop-put_mid}
use Rattle.std.proofs.Math.Seq.{take-add}
use Rattle.dtx_adapter.proofs.FeedsLemmas.{placeholders-append, placeholders-few}
use Rattle.dtx_adapter.specs.Adapting.{StandsFor}
use Rattle.dtx_adapter.specs.Feed.{placeholders}
use Rattle.dtx_engine.specs.Made.{only}
use Rattle.dtx_engine.specs.Recipe.{Recipe, IsFed}
use Rattle.dtx_packets.proofs.PacketLemmas.{packets_of-append, whole_packets-append}
use Rattle.dtx_packets.specs.Packets.{packets_of, whole_packets}
use Rattle.dtx_recipes.specs.Adapt.{feeding, feed_bytes}
use Rattle.dtx_packet_jobs.specs.Feeding.{HasFed, IsCounted}
use Rattle.dtx_forms.proofs.FilePacketsLemmas.{length-packets_of}
use Rattle.dtx_packet_jobs.specs.declared.feeder.Feeder.{Feeder}
use borrow.Rule.Slice.PartMut.{put_mid}

-- ---- counts

pub few_of : (file : List ℕ) → placeholders (packets_of file) ≤ whole_packets file
few_of file = grind (arith, length-packets_of, placeholders-few)

pub counted_of : (state : Feeder) (given : List ℕ) → HasFed state given → IsCounted state
counted_of state given is = grind (arith, length-packets_of, few_of)

-- ---- what was fed

-- a piece behind another
pub fed_on : (m : Recipe) (given a b : List ℕ) (s t : List ℕ → Type 0) (x y : List ℕ) → IsFed m given a s (only x)
    → (s (given ++ a) → IsFed m (given ++ a) b t (only y)) → IsFed m given (a ++ b) t (only (x ++ y))
fed_on m given a b s t x y first second = grind (arith, append_assoc)

-- nothing more
pub fed_none : (m : Recipe) (given : List ℕ) (s : List ℕ → Type 0) → s given → IsFed m given [] s (only [])
fed_none m given s is = grind (arith, append-nil)

-- a part of the packets
pub packets_fed : (old new : Feeder) (given bytes made : List ℕ) (filled : ℕ) → length given % 188 ≡ 0
    → new.plan ≡ old.plan → new.count ≡ old.count + whole_packets bytes → new.filled ≡ old.filled + filled
    → filled ≡ placeholders (packets_of bytes)
    → StandsFor old.plan.now new.adapter (packets_of given ++ packets_of bytes)
    → feed_bytes old.plan.now (packets_of given ++ packets_of bytes)
    ≡ feed_bytes old.plan.now (packets_of given) ++ made
    → HasFed old given → IsFed (feeding old.plan.now) given bytes (HasFed new) (only made)
packets_fed old new given bytes made filled whole plan count sum few stands fed is =
    grind (arith, packets_of-append, whole_packets-append, placeholders-append)

-- no packets have no placeholders
pub none_filled : 0 ≡ placeholders []
unfolding placeholders
none_filled = refl

-- what is not fed yet behind a part
pub rest_fed : (done n : ℕ) (old cur new : List ℕ) → done ≤ length cur → length new ≡ n
    → drop done cur ≡ drop done old → drop (done + n) (put_mid done n cur new) ≡ drop (done + n) old
rest_fed done n old cur new within long rest = grind (arith, drop-put_mid, drop-drop)

-- a part behind those that were fed
pub part_fed : (m : Recipe) (given old cur new : List ℕ) (done n : ℕ) (s t : List ℕ → Type 0) → done ≤ length cur
    → length new ≡ n → drop done cur ≡ drop done old → IsFed m given (take done old) s (only (take done cur))
    → (s (given ++ take done old) → IsFed m (given ++ take done old) (take n (drop done cur)) t (only new))
    → IsFed m given (take (done + n) old) t (only (take (done + n) (put_mid done n cur new)))
part_fed m given old cur new done n s t within long rest first second =
    let whole : take done old ++ take n (drop done cur) ≡ take (done + n) old =
    ap (λ z. take done old ++ take n z) rest ∙ sym (take-add done n old) in
    subst (λ b. IsFed m given b t (only (take (done + n) (put_mid done n cur new)))) whole
    (subst (λ y. IsFed m given (take done old ++ take n (drop done cur)) t (only y)) (sym (grind (arith, take-put_mid)))
    (fed_on m given (take done old) (take n (drop done cur)) s t (take done cur) new first second))
