-- What a receiver keeps of a run, with more segments.
use Rattle.std.proofs.Common.{◌≡◌, ◌≢◌, ℕ, ℤ, ◌+◌, ◌*◌, ◌%◌, List, [], ◌∷◌, ◌++◌, length, sym, ap, ◌∙◌, subst, inr}
use Rattle.std.proofs.Common.{arith}
use Rattle.std.proofs.lemmas.List.{append-nil}
use Rattle.dtx_outer.specs.Inner as inner
use Rattle.dtx_receiver.specs.Bytes.{groups_of, bytes_in}
use Rattle.dtx_receiver.specs.Packets.{run_packets, early_of, all_packets, packets_so_far}
use Rattle.dtx_receiver.proofs.EarlyLemmas.{end_none, end_turn}
use Rattle.dtx_receiver.proofs.GivenLemmas.{received_given}
use Rattle.dtx_receiver.proofs.GroupedLemmas.{bytes_long, flat, groups_grown}
use Rattle.dtx_receiver.proofs.LevelsLemmas.{levels_sync}
use Rattle.dtx_receiver.specs.Receiver.{AreGrouped, AreLevels, Decoding, Decodes, Grouping, IsDecoder}
use Rattle.dtx_receiver.proofs.SegmentsLemmas.{Still, still_sync, first_groups, first_bytes}

-- what is kept, of its parts
abbrev pub decoding : List ℕ → List ℕ → inner.Kept → ℕ → Decoding
decoding levels precoder_bits kept turn =
    record { levels = levels; precoder_bits = precoder_bits; inner = kept; turn = turn }

pub decodes_first : (x : List ℤ) (new : Decoding) → AreLevels new.levels new.precoder_bits (x ∷ [])
    → inner.StandsFor 207 187 52 4 new.inner [] → new.turn ≡ 0 → Decodes new (x ∷ [])
decodes_first x new a s t = record {
  levels = a;
  inner = subst (inner.StandsFor 207 187 52 4 new.inner) (sym (first_bytes x)) s;
  turn = t ∙ ap (λ g. 4 * g % 52) (sym (first_groups x));
}

decodes_sync : (x : List ℤ) (kept : Decoding) (run : List (List ℤ)) → Decodes kept run → length run % 313 ≡ 0
    → Decodes kept (run ++ x ∷ [])
decodes_sync x kept run d z =
    let s : Still run (run ++ x ∷ []) = still_sync run x d.levels.some z in
    record {
      levels = levels_sync x kept.levels kept.precoder_bits run d.levels z;
      inner = subst (inner.StandsFor 207 187 52 4 kept.inner) (sym s.bytes) d.inner;
      turn = d.turn ∙ ap (λ g. 4 * g % 52) (sym s.groups);
    }

pub receiving : IsDecoder Decodes (λ run. run_packets (bytes_in run)) (λ run. early_of (bytes_in run)) packets_so_far
    all_packets
receiving = record {
  packets = received_given;
  sync_held = decodes_sync;
  sync_given = λ x kept run d z. let s : Still run (run ++ x ∷ []) = still_sync run x d.levels.some z in
      ap early_of s.bytes ∙ sym (append-nil (early_of (bytes_in run)));
}

-- how many bytes the whole groups have, in blocks
blocks_long : {levels bits : List ℕ} (run : List (List ℤ)) → AreLevels levels bits run
    → length (bytes_in run) ≡ 207 * (4 * groups_of run)
blocks_long run a = omega (arith, bytes_long run a)

-- the groups that are held are given on, with more segments
pub decodes_given : (kept new : Decoding) (groups : Grouping) (run more : List (List ℤ)) → Decodes kept run
    → AreGrouped groups more (bytes_in run) → new.levels ≡ groups.levels → new.precoder_bits ≡ groups.precoder_bits
    → new.turn ≡ (kept.turn + 4 * length groups.held) % 52
    → inner.StandsFor 207 187 52 4 new.inner (bytes_in run ++ flat groups.held) → Decodes new more
decodes_given kept new groups run more d g l f t i = record {
  levels = subst (λ (ls : List ℕ). AreLevels ls new.precoder_bits more) (sym l)
      (subst (λ (bits : List ℕ). AreLevels groups.levels bits more) (sym f) g.levels);
  inner = subst (inner.StandsFor 207 187 52 4 new.inner) (sym g.bytes) i;
  turn = t ∙ ap (λ n. (n + 4 * length groups.held) % 52) d.turn
      ∙ turned (groups_of run) (length groups.held) (groups_of more) grown;
}
  where
    grown : groups_of more ≡ groups_of run + length groups.held
    grown = groups_grown run more (flat groups.held) (length groups.held) d.levels g.levels g.bytes g.long

    turned : (g h m : ℕ) → m ≡ g + h → (4 * g % 52 + 4 * h) % 52 ≡ 4 * m % 52
    turned g h m e = omega (arith, e)

-- ---- the end of the run

pub ends_turn : (kept : Decoding) (run : List (List ℤ)) (more : List ℕ) → Decodes kept run → kept.turn ≡ 0
    → length more ≡ 207 → run_packets (bytes_in run) ≡ early_of (bytes_in run ++ more)
ends_turn kept run more d t l =
    end_turn (bytes_in run) more (4 * groups_of run) (blocks_long run d.levels) l (sym d.turn ∙ t)

pub ends_else : (kept : Decoding) (run : List (List ℤ)) → Decodes kept run → kept.turn ≢ 0
    → run_packets (bytes_in run) ≡ early_of (bytes_in run)
ends_else kept run d t =
    end_none (bytes_in run) (4 * groups_of run) (blocks_long run d.levels) (inr (λ z. t (d.turn ∙ z)))
