-- Lives that are sent on, and how much they give at most.
use Rattle.std.proofs.Common.{◌≡◌, ℕ, ℤ, ◌+◌, ◌*◌, ◌<◌, ◌≤◌, List, [], ◌∷◌, ◌++◌, length, take, get_or, refl, sym, ap}
use Rattle.std.proofs.Common.{ap₂, ◌∙◌, append_assoc, arith, subst}
use Rattle.std.specs.List.{flat_map}
use Rattle.std.proofs.lemmas.List.{length-append, take_more}
use Rattle.std.proofs.lemmas.List.Sums.{sum_by-append}
use Rattle.dtx_cadence.specs.Anchor.{anchor, anchor_to}
use Rattle.dtx_receiver.specs.declared.batch.Received.{Received}
use Rattle.dtx_exciter.specs.Emission.{emission}
use Rattle.dtx_exciter.specs.Log.{Line, restart, life_lines, log, emission_over}
use Rattle.dtx_exciter.specs.Packets.{last_answer, group_part, under, anchor_of, syncs}
use Rattle.dtx_repeat.specs.GoingOn.{last_life}
use Rattle.dtx_repeat.proofs.GoingOnLemmas.{last_begun}
use Rattle.dtx_repeat.specs.Lives.{packets_in, lives_so_far}
use Rattle.dtx_repeat.proofs.SeveralLemmas.{one_or_none, with_runs}
use Rattle.dtx_repeat.specs.Repeater.{StandsFor, given_with}
use Rattle.dtx_repeat.specs.declared.repeater.Repeater.{Repeater}
use Rattle.dtx_repeat.proofs.RestoredLemmas.{packets_in-append}
use Rattle.dtx_files.proofs.GivenFewLemmas.{given_few}
use Rattle.dtx_files.specs.LogText.{log_text}
use Rattle.dtx_recipes.specs.Life.{one_preset, one_mute, presets_in, mutes_in, HasRoom, lives_tally}
use Rattle.dtx_recipes.proofs.LivesLemmas.{brought_by}
use Rattle.dtx_jobs.proofs.LivesLemmas.{sent_with, logged_with, tally_with_begun}
use Rattle.dtx_engine.specs.Made.{both}
use Rattle.dtx_jobs.specs.Repetition.{IsSentOn}
use Rattle.dtx_recipes.specs.Repeat.{restart_with}
use Rattle.dtx_recipes.specs.declared.life_tally.LifeTally.{LifeTally}
use Rattle.dtx_jobs.specs.declared.repetition.TheConstants.{SENT_BYTES, LOGGED_BYTES}
use Rattle.dtx_jobs.specs.declared.sending.Sending.{Sending}
use Rattle.dtx_jobs.proofs.LifeOn.{emission_few, presets_few, counted_in_all}

-- ---- how much lives give

abbrev packets_of_all : List (List (List ℕ)) → ℕ
packets_of_all lives = length (flat_map (λ (l : List (List ℕ)). l) lives)

emission_over_few : (a d : ℕ) (lives : List (List (List ℕ)))
    → length (emission_over a d lives) ≤ 5 * packets_of_all lives
emission_over_few a d [] = omega arith
emission_over_few a d (life ∷ more) = omega (
  arith,
  length-append (emission a d life) (emission_over a d more),
  length-append life (flat_map (λ (l : List (List ℕ)). l) more),
  emission_few a d life,
  emission_over_few a d more,
)

lines_few : (a d n : ℕ) (l : List (List ℕ)) → presets_in (life_lines a d n l) + mutes_in (life_lines a d n l) ≤ length l
unfolding life_lines
lines_few a d n l = counted_in_all _ 0 (length l) (λ i. presets_few _ _ (last_answer a d (take (i + 1) l)))

log_few : (a d n : ℕ) (lives : List (List (List ℕ)))
    → presets_in (log a d n lives) + mutes_in (log a d n lives) ≤ packets_of_all lives
unfolding log
log_few a d n [] = omega arith
log_few a d n (life ∷ []) = grind (arith, lines_few, length-append)
log_few a d n (life ∷ (next ∷ more)) =
    let m : ℕ = n + length (emission a d life) in
    let rest : List Line = restart m ∷ log a d m (next ∷ more) in
    omega (
      arith,
      sum_by-append one_preset (life_lines a d n life) rest,
      sum_by-append one_mute (life_lines a d n life) rest,
      lines_few a d n life,
      log_few a d m (next ∷ more),
      length-append life (flat_map (λ (l : List (List ℕ)). l) (next ∷ more)),
    )

-- so there is room for what the next packet brings
pub lives_room : (a d : ℕ) (lives : List (List (List ℕ))) (p : List ℕ) (tally : LifeTally)
    → tally ≡ lives_tally a d lives → tally.packets < 4 * 626000001 → HasRoom tally (length (brought_by a d lives p))
lives_room a d lives p tally is most = grind (arith, emission_over_few, given_few, log_few)

-- ---- one state behind another

pub sent_on : (a d : ℕ) (between repeater : Repeater) (old mid new : Sending SENT_BYTES LOGGED_BYTES)
    (s t : List (List ℤ)) (x y z : List (List (List ℕ))) (m n both : ℕ) → m + n ≡ both
    → IsSentOn a d between old mid s x y m → IsSentOn a d repeater mid new t y z n
    → IsSentOn a d repeater old new t x z both
sent_on a d between repeater old mid new s t x y z m n both sum f g = record {
  sending = g.sending;
  made = λ front e. g.made front (f.made front e);
  spaced = omega (arith, sum, f.spaced, g.spaced);
}

-- there is a life, where there are packets for the last one
pub some_lives : (lives : List (List (List ℕ))) (packets : List Received) (i : ℕ) → i < length packets
    → (lives ≡ [] → packets ≡ []) → 0 < length lives
some_lives [] packets i inside none = absurd (omega (arith, inside, ap length (none refl)))
some_lives (life ∷ more) packets i inside none = omega arith

-- packet i of those
pub packet_more : (packets : List Received) (i : ℕ) (d : Received) → i < length packets
    → packets_in (take i packets) ++ (get_or packets i d).packet.0 ∷ [] ≡ packets_in (take (i + 1) packets)
packet_more packets i d inside =
    sym (ap packets_in (take_more packets i d inside) ∙ packets_in-append (take i packets) (get_or packets i d ∷ []))

-- ---- some segments more, before their packets are sent

last_with : (begins : ℕ) (lives : List (List (List ℕ))) → begins ≤ 1
    → given_with begins (last_life lives) ≡ last_life (with_runs begins lives)
last_with begins lives most = grind (arith, one_or_none, last_begun)

no_part : group_part [] ≡ 0
unfolding group_part under anchor_of syncs anchor anchor_to
no_part = refl

pub part_with : (begins : ℕ) (lives : List (List (List ℕ))) → begins ≤ 1
    → group_part (last_life (with_runs begins lives)) ≤ group_part (last_life lives)
part_with begins lives most = grind (arith, one_or_none, last_begun, no_part)

-- with a restart, where they begin a run other than the first
pub begun_on : (a d : ℕ) (repeater : Repeater) (old mid : Sending SENT_BYTES LOGGED_BYTES) (s more : List (List ℤ))
    (begins runs : ℕ) → begins ≤ 1 → runs ≡ length (lives_so_far s)
    → StandsFor a d repeater (s ++ more) (given_with begins (last_life (lives_so_far s)))
    → old.tally ≡ lives_tally a d (lives_so_far s) → mid.tally ≡ old.tally → mid.symbols ≡ old.symbols
    → mid.lines ≡ old.lines ++ log_text (restart_with begins runs old.tally.segments)
    → IsSentOn a d repeater old mid (s ++ more) (lives_so_far s) (with_runs begins (lives_so_far s)) 0
begun_on a d repeater old mid s more begins runs most many stands counted et es el =
    let ls : List (List (List ℕ)) = lives_so_far s in
    let line : List ℕ = log_text (restart_with begins runs old.tally.segments) in
    let count = ap (λ (k : LifeTally). k.segments) counted in
    record {
      sending = record {
        stands = subst (StandsFor a d repeater (s ++ more)) (last_with begins ls most) stands;
        counted = et ∙ counted ∙ tally_with_begun a d begins ls most;
      };
      made = λ front e.
          ap₂ both
          (sent_with a d begins ls most ∙ ap (λ w. w.first) e ∙ ap (λ z. front.first ++ z) (sym es))
          (logged_with a d begins runs old.tally.segments ls most many count ∙ ap (λ w. w.second ++ line) e
          ∙ append_assoc front.second old.lines line ∙ ap (λ z. front.second ++ z) (sym el));
      spaced = omega (arith, part_with begins ls most, ap length es);
    }

-- of no lives
pub no_tally : (a d : ℕ) → lives_tally a d [] ≡ record { packets = 0; segments = 0; presets = 0; mutes = 0 }
unfolding log
no_tally a d = refl
