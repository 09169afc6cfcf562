-- Laws of what `watch` writes of a feed: what the first packets give is a prefix of what more give.
use Rattle.std.proofs.Common.{◌≡◌, ℕ, ◌%◌, List, [], ◌++◌, length, refl, sym, ap, ◌∙◌}
use Rattle.dtx_engine.specs.Made.{only, AreFrontsOf}
use Rattle.dtx_packets.proofs.PacketLemmas.{packets_of-append}
use Rattle.dtx_packets.specs.Packets.{packets_of}
use Rattle.dtx_watch.proofs.ToldLemmas.{nothing_told, told_further}
use Rattle.dtx_watch.specs.Watch.{told}
use Rattle.dtx_watch.proofs.WatchLinesLemmas.{watch_text-append}
use Rattle.dtx_watch.specs.WatchText.{watch_text}
use Rattle.dtx_watch.specs.declared.notes.Note.{Note}
use Rattle.dtx_recipes.specs.Watch.{watched_bytes, watching}

-- ---- the bytes

pub watched_parts : (before all : List (List ℕ)) (given : List Note) → told all ≡ told before ++ given
    → watched_bytes all ≡ watched_bytes before ++ watch_text given
unfolding watched_bytes
watched_parts before all given e = ap watch_text e ∙ watch_text-append (told before) given

pub watches_none : watching.made [] ≡ only []
unfolding watched_bytes
watches_none = ap (λ notes. only (watch_text notes)) nothing_told

pub watches_more : (x y : List ℕ) → length x % 188 ≡ 0 → AreFrontsOf (watching.made x) (watching.made (x ++ y))
watches_more x y whole =
    let all = packets_of-append x y whole in
    let more = told_further (packets_of x) (packets_of y) in (
      (
        watch_text more.0,
        sym (ap watched_bytes all
            ∙ watched_parts (packets_of x) (packets_of x ++ packets_of y) more.0 more.1),
      ),
      ([], refl),
    )
