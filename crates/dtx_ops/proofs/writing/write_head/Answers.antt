use Rattle.std.proofs.Common.{◌≡◌, ℕ, ◌+◌, ◌-◌, List, [], ◌∷◌, ◌++◌, ◌∙◌, take, drop, length, set, ap, sym, refl, arith}
use Rattle.std.proofs.Common.{append_assoc}
use Rattle.std.proofs.lemmas.List.{drop-drop, length-drop, length-take}
use Rattle.std.proofs.Math.ListN.{length-set}
use Rattle.byteorder.specs.Endian.{big_bytes}
use Rattle.dtx_ops.specs.Paging.{kind_of, paging_bytes, count_place}
use Rattle.dtx_ops.specs.Spelling.{states_bits, times_bytes, head_bytes}
use Rattle.dtx_ops.proofs.Writes.{wrote_at, set_first, three_pieces, length-times_bytes}
use Rattle.dtx_ops.proofs.writing.write_head.Goals as goal

pub returns-clause-head : goal.returns-clause-head
unfolding head_bytes
returns-clause-head c =
    let out = c.args.out.now in
    let f = c.args.ops.now in
    let kind : ℕ = c.kind.result in
    let states : List ℕ = big_bytes 5 (states_bits f.states) in
    let times : List ℕ = times_bytes f in
    let name : List ℕ = paging_bytes f.paging in
    let count : List ℕ = name ++ c.len.result ∷ [] in
    let place : ℕ = length name + 1 in
    let first = set_first out kind (omega arith) in
    let packed = c.write_uint.ensures
    ∙ ap (λ (b : ℕ). big_bytes 5 b ++ drop 5 (take (length (set out 0 kind) - 1) (drop 1 (set out 0 kind))))
    c.packed.ensures.value in
    let two = wrote_at 1 _ (kind ∷ []) (drop 1 out) states (set out 0 kind) c.write_uint.new.buf 5 first refl refl
    packed in
    let three = two ∙ ap (λ (t : List ℕ). (kind ∷ states) ++ t) (drop-drop 5 1 out) in
    let four = wrote_at 6 _ (kind ∷ states) (drop 6 out)
    times _ c.write_times.new.out 12 three refl refl c.write_times.ensures.times in
    let five = four ∙ ap (λ (t : List ℕ). (kind ∷ states) ++ (times ++ t)) (drop-drop 12 6 out)
    ∙ sym (append_assoc (kind ∷ states) times (drop 18 out)) in
    let six = wrote_at 18 _ ((kind ∷ states) ++ times) (drop 18 out) count _ c.write_count.new.out place five
    (omega (arith, length-times_bytes f)) refl c.write_count.ensures in
    let far : 18 + place ≡ count_place f.paging + 1 = omega arith in
    six
    ∙ ap (λ (t : List ℕ). ((kind ∷ states) ++ times) ++ (count ++ t)) (drop-drop place 18 out
    ∙ ap (λ (k : ℕ). drop k out) far)
    ∙ three_pieces (kind ∷ states) times count (drop (count_place f.paging + 1) out)
    ∙ ap (λ (k : ℕ). (k ∷ states ++ times ++ count) ++ drop (count_place f.paging + 1) out) c.kind.ensures
    ∙ ap (λ (n : ℕ). (kind_of f.paging ∷ states ++ times ++ (name ++ n ∷ [])) ++ drop (count_place f.paging + 1) out)
    c.len.ensures.value

pub write_uint-requires-clause-room : goal.write_uint-requires-clause-room
write_uint-requires-clause-room c =
    simp (length-take, length-drop, length-set) (omega (arith, c.requires.room))

pub write_uint-requires-clause-fits : goal.write_uint-requires-clause-fits
write_uint-requires-clause-fits c = c.packed.ensures.within

pub write_times-requires-clause-stamp : goal.write_times-requires-clause-stamp
write_times-requires-clause-stamp c = c.requires.stamp

pub write_times-requires-clause-max_delay : goal.write_times-requires-clause-max_delay
write_times-requires-clause-max_delay c = c.requires.max_delay

pub returns-clause-twelve : goal.returns-clause-twelve
returns-clause-twelve c = c.packed.ensures.twelve

pub returns-clause-states : goal.returns-clause-states
returns-clause-states c = c.packed.ensures.small

pub returns-clause-frame : goal.returns-clause-frame
returns-clause-frame c = c.write_times.ensures.frame
