use Rattle.std.proofs.Common.{◌≡◌, ℕ, ◌+◌, ◌-◌, ◌*◌, List, ◌++◌, ◌∙◌, drop, length, replicate, refl, ap, sym, arith}
use Rattle.std.proofs.Common.{append_assoc}
use Rattle.std.proofs.lemmas.List.{drop-drop, drop-replicate}
use Rattle.std.specs.List.{flat_map}
use Rattle.dtx_ops.specs.declared.fields.Entry.{Entry}
use Rattle.dtx_ops.specs.Paging.{paging_bytes, count_place}
use Rattle.dtx_ops.specs.Spelling.{entry_bytes, head_bytes, data_of}
use Rattle.dtx_ops.proofs.Writes.{wrote_at, length-head_bytes}
use Rattle.dtx_ops.proofs.writing.write_data.Goals as goal

pub returns-clause-data : goal.returns-clause-data
unfolding data_of
returns-clause-data c =
    let f = c.args.ops.now in
    let es = c.as_slice.result.now in
    let name : List ℕ = paging_bytes f.paging in
    let place : ℕ = count_place f.paging + 1 in
    let n : 164 - (place + 4 * length es) ≡ 145 - length name - 4 * length es = omega arith in
    let rest : drop (4 * length es) (drop place c.args.out.now) ≡ replicate (145 - length name - 4 * length es) 0 =
    rw (
      c.requires.blank,
      drop-drop (4 * length es) place (replicate {A = ℕ} 164 0),
      drop-replicate {X = ℕ} (place + 4 * length es) 164 0,
      n,
    ) refl in
    let long = length-head_bytes f ∙ ap (λ (k : ℕ). k + 1) (sym c.count_place.ensures.place) in
    let all = wrote_at (c.count_place.result + 1) _ (head_bytes f) (drop place c.args.out.now)
    (flat_map entry_bytes es) c.write_head.new.out c.write_entries.new.out (4 * length es) c.write_head.ensures.head
    long refl c.write_entries.ensures.bytes in
    all ∙ ap (λ (t : List ℕ). head_bytes f ++ (flat_map entry_bytes es ++ t)) rest
    ∙ ap (λ (xs : List Entry). head_bytes f ++ (flat_map entry_bytes xs
    ++ replicate (145 - length name - 4 * length xs) 0)) c.as_slice.ensures.value
    ∙ sym (append_assoc (head_bytes f) (flat_map entry_bytes f.offsets.items)
    (replicate (145 - length name - 4 * length f.offsets.items) 0))
