-- The packets that groups of a run give, and its end.
use Rattle.std.proofs.Common.{◌≡◌, ℕ, ℤ, ◌+◌, ◌-◌, ◌*◌, ◌%◌, ◌<◌, ◌≤◌, ◌⊎◌, List, [], ◌∷◌, ◌++◌, length, map, sym, ap}
use Rattle.std.proofs.Common.{ap₂, ◌∙◌, subst, inl, inr, arith}
use Rattle.std.specs.List.{range_with_len}
use Rattle.std.proofs.lemmas.Bool.{cases_lt}
use Rattle.std.proofs.lemmas.List.{length-append, map-append}
use Rattle.dtx_lists.proofs.Range.{range_with_len-parts}
use Rattle.dtx_lists.proofs.RangeMoved.{map-range_moved}
use Rattle.dtx_outer.specs.Inner.{word_at}
use Rattle.dtx_receiver.specs.declared.batch.Received.{Received}
use Rattle.dtx_receiver.specs.Bytes.{groups_of, bytes_in}
use Rattle.dtx_receiver.proofs.AnswersLemmas.{AreCarried}
use Rattle.dtx_erase.specs.Marks.{shown, shown_run, is_set}
use Rattle.dtx_erase.specs.Mended.{mended_early, mended_run_packets, mended_run, mended_run_early}
use Rattle.dtx_erase.specs.Sides.{AreGiven, Side, Decoding, Decodes, Holds, IsFurther, mended_word, packet_of, word_of}
use Rattle.dtx_erase.proofs.MarksLemmas.{marks_are, shown_groups}
use Rattle.dtx_erase.proofs.MendedLemmas.{flagged, early_more, end_none, end_one}
use Rattle.dtx_erase.proofs.Decoding.{Both, decodes_further, early_is, flags_long, shown_due}

-- what is kept where the words of more groups are gathered, and their packets aren't given
abbrev pub behind : Decoding → Side → Side → Decoding
behind kept bytes marks = record { bytes = bytes; marks = marks; waits = kept.waits; place = kept.place }

pub early_further : (kept new : Decoding) (h : ℕ) (run longer : List (List ℤ)) (brought : List Received)
    → Both kept new h run longer
    → brought ≡ map (packet_of (behind kept new.bytes new.marks)) (range_with_len (4 * kept.waits)
    (4 * (h - kept.waits))) → mended_run_early longer ≡ mended_run_early run ++ brought
unfolding packet_of
early_further kept new h run longer brought b e = early_is new longer (decodes_further kept new h run longer b)
    ∙ ap₂ (λ bytes flags. mended_early bytes (map is_set flags)) b.bytes.bytes b.marks.bytes
    ∙ early_more (bytes_in run) b.bytes.more (bytes_in (shown_run run)) b.marks.more (groups_of run) h
    b.old.bytes.gathers.given (flags_long kept run b.old) long
    ∙ ap₂ (λ (xs ys : List Received). xs ++ ys) (sym (early_is kept run b.old))
    (map-range_moved (flagged (bytes_in run ++ b.bytes.more) (bytes_in (shown_run run) ++ b.marks.more))
    (packet_of (behind kept new.bytes new.marks)) (4 * groups_of run - 52) (4 * (13 - groups_of run))
    (4 * (h - (13 - groups_of run))) one
    ∙ ap (λ w. map (packet_of (behind kept new.bytes new.marks)) (range_with_len (4 * w) (4 * (h - w))))
    (sym b.old.waits) ∙ sym e)
  where
    long : length b.bytes.more ≡ 828 * h
    long = omega (
      arith,
      length-append (bytes_in run) b.bytes.more,
      ap length b.bytes.bytes,
      b.bytes.holds.gathers.given,
      b.old.bytes.gathers.given,
      b.bytes.count,
    )

    one : (i : ℕ) → i < 4 * (h - (13 - groups_of run))
        → flagged (bytes_in run ++ b.bytes.more) (bytes_in (shown_run run) ++ b.marks.more) (4 * groups_of run - 52 + i)
        ≡ packet_of (behind kept new.bytes new.marks) (4 * (13 - groups_of run) + i)
    one i l = grind (arith, shown_groups)

-- ---- the packets of one group more

pub none_given : (kept : Decoding) (given : List Received) → kept.place < 312 → given ≡ [] → AreGiven kept kept 0 given
none_given kept given l e = grind arith

-- the four packets of a group
abbrev pub of_group : Decoding → ℕ → ℕ → Received
of_group now j p = mended_word (187 * ((now.place + p) % 312)) (word_of now.bytes.gathered (4 * j + p))
    (word_of now.marks.gathered (4 * j + p))

pub next_given : (kept now new : Decoding) (j : ℕ) (before after : List Received) → AreGiven kept now j before
    → (new.bytes ≡ now.bytes) × (new.marks ≡ now.marks)
    → (0 < now.waits → (new.waits + 1 ≡ now.waits) × (new.place ≡ now.place) × (after ≡ before))
    → (now.waits ≡ 0 → (new.waits ≡ 0) × (new.place ≡ (now.place + 4) % 312)
    × (after ≡ before ++ map (of_group now j) (0 ∷ 1 ∷ 2 ∷ 3 ∷ []))) → AreGiven kept new (j + 1) after
unfolding packet_of
next_given kept now new j before after g sides waiting given = by_waits (cases_lt 0 now.waits)
  where
    by_waits : (0 < now.waits) ⊎ (now.waits ≤ 0) → AreGiven kept new (j + 1) after
    by_waits (inl l) = grind arith
    by_waits (inr l) = let a = given (omega (arith, l)) in record {
      bytes = sides.0 ∙ g.bytes;
      marks = sides.1 ∙ g.marks;
      waits = omega (arith, a.0, g.waits, l);
      place = omega (arith, a.1, g.place, more);
      packets = a.2 ∙ ap₂ (λ (xs ys : List Received). xs ++ ys) g.packets
          (sym (map-range_moved (packet_of kept) (of_group now j) (4 * kept.waits + 4 * (j - kept.waits)) 0 4 one))
          ∙ sym (ap (λ n. map (packet_of kept) (range_with_len (4 * kept.waits) n)) more
          ∙ ap (map (packet_of kept)) (range_with_len-parts (4 * kept.waits) (4 * (j - kept.waits)) 4)
          ∙ map-append (packet_of kept) (range_with_len (4 * kept.waits) (4 * (j - kept.waits)))
          (range_with_len (4 * kept.waits + 4 * (j - kept.waits)) 4));
    }
      where
        more : 4 * (j + 1 - kept.waits) ≡ 4 * (j - kept.waits) + 4
        more = omega (arith, g.waits, l)

        one : (i : ℕ) → i < 4 → packet_of kept (4 * kept.waits + 4 * (j - kept.waits) + i) ≡ of_group now j (0 + i)
        one i m =
            ap (λ n. mended_word (187 * n) (word_of kept.bytes.gathered (4 * kept.waits + 4 * (j - kept.waits) + i))
            (word_of kept.marks.gathered (4 * kept.waits + 4 * (j - kept.waits) + i))) (omega (arith, g.place))
            ∙ ap₂ (mended_word (187 * ((now.place + (0 + i)) % 312)))
            (ap₂ (λ (s : Side) (n : ℕ). word_of s.gathered n) (sym g.bytes) (omega (arith, g.waits, l)))
            (ap₂ (λ (s : Side) (n : ℕ). word_of s.gathered n) (sym g.marks) (omega (arith, g.waits, l)))

-- ---- segments, behind a run of which these segments were kept

pub all_taken : (xs : List (List ℤ)) (old kept new : Decoding) (kb km b m : Side) (place h k : ℕ)
    (brought : List Received) → kept ≡ old → k ≡ h → kb ≡ kept.bytes → km ≡ kept.marks
    → ((r : List (List ℤ)) → Holds kb r → length r % 313 ≡ place + 1 → IsFurther b h r (r ++ xs))
    → ((r : List (List ℤ)) → Holds km r → length r % 313 ≡ place + 1 → IsFurther m k r (r ++ shown_run xs))
    → AreGiven (behind kept b m) new h brought → (run : List (List ℤ)) → Decodes old run → length run % 313 ≡ place + 1
    → AreCarried Decodes mended_run_early xs new run brought
all_taken xs old kept new kb km b m place h k brought is same from_b from_m bytes marks g run d e =
    let here : Decodes kept run = subst (λ (k : Decoding). Decodes k run) (sym is) d in
    let both : Both kept new h run (run ++ xs) = record {
      old = here;
      bytes = rw g.bytes (bytes run (subst (λ (s : Side). Holds s run) (sym from_b) here.bytes) e);
      marks = rw g.marks (subst (IsFurther m h (shown_run run)) (sym (map-append (map shown) run xs))
          (rw (← same) (marks (shown_run run) (subst (λ (s : Side). Holds s (shown_run run)) (sym from_m) here.marks)
          (shown_due run place e))));
      waits = g.waits;
      place = g.place;
    } in
    record {
      holds = decodes_further kept new h run (run ++ xs) both;
      packets = early_further kept new h run (run ++ xs) brought both
          (g.packets ∙ ap₂ (λ (c n : Side). map (packet_of (behind kept c n)) (range_with_len (4 * kept.waits)
          (4 * (h - kept.waits)))) (sym g.bytes) (sym g.marks));
    }

-- ---- the end of a run

run_is : (kept : Decoding) (run : List (List ℤ)) → Decodes kept run
    → mended_run run ≡ mended_run_packets (bytes_in run) (map is_set (bytes_in (shown_run run)))
run_is kept run d = ap (mended_run_packets (bytes_in run)) (marks_are run)

pub ends_one : (kept : Decoding) (run : List (List ℤ)) (word flags : List ℕ) → Decodes kept run → kept.waits ≡ 0
    → kept.place % 52 ≡ 0
    → ((k : ℕ) → k + 52 ≡ 4 * groups_of run → k % 52 ≡ 0 → word ≡ word_at 207 52 4 (bytes_in run) k)
    → ((k : ℕ) → k + 52 ≡ 4 * groups_of (shown_run run) → k % 52 ≡ 0
    → flags ≡ word_at 207 52 4 (bytes_in (shown_run run)) k)
    → mended_run run ≡ mended_run_early run ++ mended_word (187 * kept.place) word flags ∷ []
ends_one kept run word flags d w p f h = run_is kept run d ∙ grind (arith, end_one, some, turn, early_is, shown_groups)
  where
    some : 13 ≤ groups_of run
    some = omega (arith, d.waits, w)

    turn : (4 * groups_of run - 52) % 52 ≡ 0
    turn = omega (arith, d.place, p)

pub ends_none : (kept : Decoding) (run : List (List ℤ)) → Decodes kept run → (kept.waits ≡ 0 → kept.place % 52 ≡ 0 → ⊥)
    → mended_run run ≡ mended_run_early run ++ []
ends_none kept run d n = run_is kept run d
    ∙ end_none (bytes_in run) (bytes_in (shown_run run)) (groups_of run) d.bytes.gathers.given
    (elim (cases_lt (4 * groups_of run) 52) [
      | inl l ↦ inl l
      | inr l ↦ inr (λ z. n (omega (arith, d.waits, l)) (omega (arith, d.place, l, z)))
    ]) ∙ ap (λ xs. xs ++ []) (sym (early_is kept run d))
