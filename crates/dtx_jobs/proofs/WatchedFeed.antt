-- What `watch` answers and writes of a sound feed.
use Rattle.std.proofs.Common.{◌≡◌, ◌≢◌, ℕ, zero, suc, ◌+◌, ◌-◌, ◌%◌, ◌<◌, ◌≤◌, ◌==◌, Bool, true, false, cond, Option}
use Rattle.std.proofs.Common.{Some, None, Result, Ok, Err, List, [], ◌∷◌, ◌++◌, length, map, drop, get_or, refl, sym}
use Rattle.std.proofs.Common.{ap, ap₂, subst, ◌∙◌, arith}
use Rattle.std.specs.Prelude.{codes, unwrap_or}
use Rattle.std.specs.Fmt.{digits}
use Rattle.std.specs.List.{All, Contains, filter, flat_map, range_with_len}
use Rattle.std.proofs.lemmas.Bool.{cond-false, eqb-false, ne_eqb}
use Rattle.std.proofs.lemmas.List.{get_or-drop, length-drop}
use Rattle.std.proofs.lemmas.List.Elements.{All-contains, All-contains_itself, All-from_get_or, All-head, All-tail}
use Rattle.std.proofs.lemmas.List.Elements.{All-filter, All-weaker, filter_passes}
use Rattle.std.proofs.lemmas.List.Folds.{flat_map-map}
use Rattle.std.proofs.lemmas.List.FromFn.{get_or-range_with_len, length-range_with_len}
use Rattle.std.proofs.lemmas.List.Sums.{sum_by-cons}
use Rattle.dtx_lists.proofs.RangeMoved.{flat_map-range_same}
use Rattle.dtx_engine.specs.Made.{only, outputs_of}
use Rattle.dtx_engine.specs.Recipe.{meaning_of_file}
use Rattle.dtx_meaning.specs.Meaning.{Meaning}
use Rattle.dtx_meaning.specs.Status.{done}
use Rattle.dtx_ops.specs.Reading.{reading, unless, first, rules, data_rules, head_rules}
use Rattle.dtx_ops.proofs.RefusingLemmas.{reading_other}
use Rattle.dtx_ops.specs.declared.fields.Ops.{Ops}
use Rattle.dtx_ops.specs.declared.refusal.OpsNo.{OpsNo}
use Rattle.dtx_ops.specs.declared.refusal.OpsNo.TheVariants as no
use Rattle.dtx_packets.specs.Packets.{pid_of, packets_of, whole_packets}
use Rattle.dtx_watch.specs.Sound.{IsSoundAt, IsSoundFeed, IsCalmOps, IsCalmAt}
use Rattle.dtx_watch.proofs.SoundLemmas.{calm}
use Rattle.dtx_watch.specs.Watch.{notes_at, notes_to, watch}
use Rattle.dtx_watch.specs.WatchText.{note_text, watch_text}
use Rattle.dtx_watch.specs.declared.notes.ClockNote.{ClockNote}
use Rattle.dtx_watch.specs.declared.notes.ClockNote.TheVariants as clock
use Rattle.dtx_watch.specs.declared.notes.Note.{Note}
use Rattle.dtx_watch.specs.declared.notes.OpsNote.{OpsNote}
use Rattle.dtx_watch.specs.declared.notes.StatesNote.{StatesNote}
use Rattle.dtx_watch.specs.declared.notes.StatesNote.TheVariants as states
use Rattle.dtx_watch.specs.declared.notes.NoteKind.{NoteKind}
use Rattle.dtx_watch.specs.declared.notes.NoteKind.TheVariants as what
use Rattle.dtx_forms.specs.Shapes.{single_packets}
use Rattle.dtx_recipes.specs.Watch.{count_of, watch_numbers, watch_tally, watching, one_ops, one_slip, one_jump}
use Rattle.dtx_recipes.specs.Watch.{slips_of, jumps_of, one_unread, one_stray}
use Rattle.dtx_jobs.proofs.WatchLemmas.{same_numbers}
use Rattle.dtx_recipes.specs.WatchedFeed.{ops_packets, ops_at, AreCalm, IsWatchedCalmly}
use Rattle.dtx_recipes.specs.declared.watch_tally.WatchTally.{WatchTally}
use Rattle.dtx_jobs.proofs.WatchedText.{notes_watched}

-- ---- which packets are operations packets

-- the packet identifier is the only rule by which a packet is none
passed : (b : Bool) (refusal : OpsNo) (rest : Option OpsNo) → refusal ≢ no.NotOps → rest ≢ Some no.NotOps
    → cond b (Some refusal) rest ≢ Some no.NotOps
passed true refusal rest h k = λ e. h (ap (λ o. unwrap_or o refusal) e)
passed false refusal rest h k = k

none_is_some : ◌≡◌ {A = Option OpsNo} None (Some no.NotOps) → ⊥
none_is_some e = cc

data_passed : (bytes : List ℕ) → first (data_rules bytes) ≢ Some no.NotOps
unfolding data_rules head_rules
data_passed bytes = passed _ no.Kind _ (λ e. cc) (passed _ no.Pad _ (λ e. cc) (passed _ no.Stamp _ (λ e. cc)
    (passed _ no.Delay _ (λ e. cc) (passed _ no.Index _ (λ e. cc) (passed _ no.Page _ (λ e. cc)
    (passed _ no.Count _ (λ e. cc) (passed _ no.Twice _ (λ e. cc) (passed _ no.Fill _ (λ e. cc) none_is_some))))))))

ok_is_none : (ops : Ops) → ◌≡◌ {A = Result Ops OpsNo} (Ok ops) (Err no.NotOps) → ⊥
ok_is_none ops e = cc

never_both : (b : Bool) → b ≡ true → b ≡ false → ⊥
never_both true t f = cc
never_both false t f = cc

abbrev refusal_of : Result Ops OpsNo → Option OpsNo
refusal_of (Ok ops) = None
refusal_of (Err refusal) = Some refusal

refused_so : (o : Option OpsNo) (ops : Ops) → unless o ops ≡ Err no.NotOps → o ≡ Some no.NotOps
refused_so None ops e = absurd (ok_is_none ops e)
refused_so (Some refusal) ops e = ap refusal_of e

ops_read : (p : List ℕ) → reading p ≡ Err no.NotOps → (pid_of p == 0x1FFA) ≡ false
unfolding reading rules
ops_read p e = grind (arith, refused_so, passed, data_passed, cond-false)

read_is_ops : (p : List ℕ) (ops : Ops) → reading p ≡ Ok ops → (b : Bool) → (pid_of p == 0x1FFA) ≡ b
    → (pid_of p == 0x1FFA) ≡ true
read_is_ops p ops e true is = is
read_is_ops p ops e false is = absurd (ok_is_none ops (sym e ∙ reading_other p (eqb-false (pid_of p) 0x1FFA is)))

-- ---- what is told of each packet

-- what the first note of an operations packet at its place says
abbrev of_first : NoteKind → OpsNote → OpsNote
of_first (what.Ops o) rest = o
of_first other rest = rest

abbrev said_in : List Note → OpsNote
said_in [] = record {
  frame = 0;
  index = 0;
  stamp = 0;
  max_delay = 0;
  listed = 0;
  states = states.First;
  clock = clock.First;
}
said_in (note ∷ notes) = of_first note.what (said_in notes)

abbrev said_of : List (List ℕ) → ℕ → OpsNote
said_of packets k = said_in (notes_at packets k)

abbrev lock_at : ℕ → List Note
lock_at k = cond (k == 0) ((record { packet = 0; what = what.Lock }) ∷ []) []

abbrev line_at : List (List ℕ) → ℕ → List Note
line_at packets k = cond (pid_of (get_or packets k []) == 0x1FFA) (ops_at (said_of packets) k ∷ []) []

record IsOne (packets : List (List ℕ)) (k : ℕ) : Type 0 where
  is : notes_at packets k ≡ lock_at k ++ line_at packets k
  calm : (pid_of (get_or packets k []) == 0x1FFA) ≡ true
      → (ops : Ops) × (reading (get_or packets k []) ≡ Ok ops) × IsCalmOps ops (said_of packets k)

said_last : (b : Bool) (k : ℕ) (o : OpsNote) → said_in (cond b ((record { packet = 0; what = what.Lock }) ∷ []) []
    ++ (record { packet = k; what = what.Ops o }) ∷ []) ≡ o
said_last true k o = refl
said_last false k o = refl

one : (start most m k : ℕ) (f d : List (List ℕ)) → IsSoundAt start most f (m + k) (reading (get_or d k []))
    → IsCalmAt d k → IsOne d k
one start most m k f d h at = grind (arith, said_last, read_is_ops, calm, ops_read, never_both)

-- ---- all of them

one_kept : (p : ℕ → Bool) (g : ℕ → Note) (k : ℕ) (ks : List ℕ) (b : Bool)
    → flat_map (λ i. cond (p i) (g i ∷ []) []) ks ≡ map g (filter p ks)
    → cond b (g k ∷ []) [] ++ flat_map (λ i. cond (p i) (g i ∷ []) []) ks
    ≡ map g (cond b (k ∷ filter p ks) (filter p ks))
one_kept p g k ks true rest = ap (λ ns. g k ∷ ns) rest
one_kept p g k ks false rest = rest

kept : (p : ℕ → Bool) (g : ℕ → Note) (xs : List ℕ) → flat_map (λ k. cond (p k) (g k ∷ []) []) xs ≡ map g (filter p xs)
kept p g [] = refl
kept p g (k ∷ ks) = one_kept p g k ks (p k) (kept p g ks)

no_lock : (k : ℕ) → 1 ≤ k → lock_at k ≡ []
no_lock k l = grind (arith, cond-false, ne_eqb)

notes_are : (d : List (List ℕ)) → 0 < length d → ((k : ℕ) → k < length d → IsOne d k)
    → watch d ≡ (record { packet = 0; what = what.Lock }) ∷ map (ops_at (said_of d)) (ops_packets d)
unfolding notes_to ops_packets
notes_are d some ones = by_length (length d) refl
  where
    by_length : (n : ℕ) → length d ≡ n
        → flat_map (notes_at d) (range_with_len 0 (length d)) ≡ (record { packet = 0; what = what.Lock })
        ∷ map (ops_at (said_of d)) (filter (λ k. pid_of (get_or d k []) == 0x1FFA) (range_with_len 0 (length d)))
    by_length zero e = absurd (omega (arith, some, e))
    by_length (suc n) e = cc (
      e,
      flat_map-range_same (notes_at d) (λ k. lock_at k ++ line_at d k) 0 (suc n)
          (λ k l m. let o = ones k (omega (arith, m, e)) in o.is),
      flat_map-range_same (λ k. lock_at k ++ line_at d k) (line_at d) 1 n
          (λ k l m. ap (λ ls. ls ++ line_at d k) (no_lock k l)),
      kept (λ k. pid_of (get_or d k []) == 0x1FFA) (ops_at (said_of d)) (range_with_len 0 (suc n)),
    )

below_all : (n : ℕ) → All (λ k. k < n) (range_with_len 0 n)
below_all n = grind (arith, All-from_get_or, length-range_with_len, get_or-range_with_len)

are_calm : (d : List (List ℕ)) → ((k : ℕ) → k < length d → IsOne d k) → AreCalm d (said_of d)
unfolding ops_packets
are_calm d ones = λ k contained.
    let p : ℕ → Bool = λ i. pid_of (get_or d i []) == 0x1FFA in
    let all : List ℕ = range_with_len 0 (length d) in
    let is : p k ≡ true = All-contains (λ i. p i ≡ true) (filter p all) k (filter_passes p all) contained in
    let o = ones k (All-contains (λ i. i < length d) (filter p all) k
    (All-filter p (λ i. i < length d) all (below_all (length d))) contained) in
    o.calm is

-- ---- the text and the numbers

lock_text : note_text (record { packet = 0; what = what.Lock }) ≡ codes "lock 0\n"
unfolding note_text digits
lock_text = refl

text_is : (said : ℕ → OpsNote) (ks : List ℕ)
    → watch_text ((record { packet = 0; what = what.Lock }) ∷ map (ops_at said) ks)
    ≡ codes "lock 0\n" ++ flat_map (λ k. note_text (ops_at said k)) ks
text_is said ks = ap₂ (λ (x y : List ℕ). x ++ y) lock_text (flat_map-map note_text (ops_at said) ks)

each_counted : (said : ℕ → OpsNote) (ks : List ℕ) → count_of one_ops (map (ops_at said) ks) ≡ length ks
each_counted said [] = refl
each_counted said (k ∷ ks) = omega (
  arith,
  sum_by-cons (λ (x : Note). one_ops x.what) (ops_at said k) (map (ops_at said) ks),
  each_counted said ks,
)

none_counted : (one : NoteKind → ℕ) (said : ℕ → OpsNote) (ks : List ℕ) → All (λ k. one (what.Ops (said k)) ≡ 0) ks
    → count_of one (map (ops_at said) ks) ≡ 0
none_counted one said [] h = refl
none_counted one said (k ∷ ks) h = omega (
  arith,
  sum_by-cons (λ (x : Note). one x.what) (ops_at said k) (map (ops_at said) ks),
  All-head (λ i. one (what.Ops (said i)) ≡ 0) k ks h,
  none_counted one said ks (All-tail (λ i. one (what.Ops (said i)) ≡ 0) k ks h),
)

no_slip : (s : StatesNote) → s ≢ states.Slip → one_slip s ≡ 0
no_slip states.Early h = refl
no_slip states.First h = refl
no_slip states.Right h = refl
no_slip states.Slip h = absurd (h refl)

no_jump : (c : ClockNote) → c ≢ clock.Jump → one_jump c ≡ 0
no_jump clock.First h = refl
no_jump clock.Right h = refl
no_jump clock.Jump h = absurd (h refl)

-- with the note of the anchor, which isn't counted
with_lock : (one : NoteKind → ℕ) → one what.Lock ≡ 0 → (notes : List Note)
    → count_of one ((record { packet = 0; what = what.Lock }) ∷ notes) ≡ count_of one notes
with_lock one none notes = grind (arith, sum_by-cons, one)

tally_calm : (d : List (List ℕ)) (said : ℕ → OpsNote) (n : ℕ) → AreCalm d said
    → watch_tally n ((record { packet = 0; what = what.Lock }) ∷ map (ops_at said) (ops_packets d)) ≡ record {
      packets = n;
      ops = length (ops_packets d);
      slips = 0;
      jumps = 0;
      unread = 0;
      stray = 0;
    }
tally_calm d said n calm =
    let ks : List ℕ = ops_packets d in
    let notes : List Note = map (ops_at said) ks in
    let each : (one : NoteKind → ℕ) → ((k : ℕ) → Contains ks k → one (what.Ops (said k)) ≡ 0) → count_of one notes ≡ 0 =
    λ one none. none_counted one said ks (grind (arith, All-weaker, one, All-contains_itself)) in
    same_numbers n _ _ _ _ _ _ _ _ _ _ (with_lock one_ops refl notes ∙ each_counted said ks)
    (with_lock slips_of refl notes ∙ each slips_of (λ k c. no_slip (said k).states (calm k c).2.states))
    (with_lock jumps_of refl notes ∙ each jumps_of (λ k c. no_jump (said k).clock (calm k c).2.clock))
    (with_lock one_unread refl notes ∙ each one_unread (λ k c. refl))
    (with_lock one_stray refl notes ∙ each one_stray (λ k c. refl))

pub watched_calmly : (names : List (List ℕ)) (file : List ℕ) (start most mark : ℕ) (feed : List (List ℕ))
    → IsSoundFeed start most feed → mark % 624 ≡ 0 → mark < length feed → packets_of file ≡ drop mark feed
    → whole_packets file ≤ 624000000 → IsWatchedCalmly names (drop mark feed) (length file % 188)
    (meaning_of_file single_packets watching names file)
watched_calmly names file start most mark feed sound z inside same few =
    let d : List (List ℕ) = drop mark feed in
    let loose : ℕ = length file % 188 in
    let long : length d ≡ length feed - mark = length-drop mark feed in
    let says : (k : ℕ) → k < length d → IsSoundAt start most feed (mark + k) (reading (get_or d k [])) = λ k l.
    subst (λ p. IsSoundAt start most feed (mark + k) (reading p)) (sym (get_or-drop mark feed k []))
    (sound.says (mark + k) (omega (arith, l, long))) in
    let ones : (k : ℕ) → k < length d → IsOne d k = λ k l. one start most mark k feed d (says k l)
    (calm start most feed d mark k (record { sound = sound; mark = z; inside = inside; are = refl }) l) in
    let means : List ℕ → List ℕ → Meaning = λ numbers text. record {
      outcome = done numbers;
      outputs = outputs_of names (only text);
    } in
    record {
      said = said_of d;
      calm = are_calm d ones;
      is = notes_watched names file few
          ∙ ap (λ ps. means (watch_numbers (watch_tally (length ps) (watch ps)) loose) (watch_text (watch ps))) same
          ∙ ap (λ notes. means (watch_numbers (watch_tally (length d) notes) loose) (watch_text notes))
          (notes_are d (omega (arith, long, inside)) ones) ∙ ap₂ means (ap (λ (t : WatchTally). watch_numbers t loose)
          (tally_calm d (said_of d) (length d) (are_calm d ones))) (text_is (said_of d) (ops_packets d));
    }
