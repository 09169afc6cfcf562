use Rattle.std.proofs.Common.{◌≡◌, ◌<◌, ℕ, List, [], map, length, refl, sym, ap, subst, ◌∙◌, All, arith}
use Rattle.std.proofs.lemmas.List.{length-map}
use Rattle.dtx_ops.specs.declared.fields.Entry.{Entry}
use Rattle.dtx_ops.specs.declared.paging.Paging.{Paging}
use Rattle.dtx_ops.specs.Spelling.{IsEntry}
use Rattle.dtx_plan.specs.declared.transmitter.Transmitter.{Transmitter}
use Rattle.dtx_adapter.specs.Feed.{entry_of, placeholders, paging_of, listed}
use Rattle.dtx_adapter.proofs.GroupsLemmas.{is_filled-none, filled_groups-none}
use Rattle.dtx_adapter.proofs.PagesLemmas.{paging_of-same, paged_at_hand}
use Rattle.dtx_adapter.proofs.MakingLemmas.{entries_differ}
use Rattle.dtx_adapter.proofs.filler.Filler.new.Goals as goal

pub invariant_of-result : goal.invariant_of-result
invariant_of-result c =
    let ts : List Transmitter = c.args.plan.now.transmitters in
    let entries : List Entry = c.in_ok-entries.entries.items in
    let paging : Paging = c.ops_of.result.paging in
    let all : entries ≡ map entry_of ts = c.in_ok-entries.ensures.entries ∙ ap (map entry_of) c.as_slice.ensures in
    let turn : paging ≡ paging_of entries 0 = c.ops_of.ensures.paging
    ∙ ap (λ (es : List Entry). paging_of es 0) c.as_slice-2.ensures.value in
    let held : c.ops_of.result.offsets.items ≡ listed entries paging = c.ops_of.ensures.at_hand
    ∙ ap (λ (es : List Entry). listed es paging) c.as_slice-2.ensures.value in
    record {
      start = c.requires.start;
      max_delay = subst (λ (n : ℕ). n < 10000000) (sym c.ops_of.ensures.max_delay) c.requires.max_delay;
      counter = omega arith;
      differ = entries_differ ts entries all c.requires.transmitters.distinct;
      paged = paged_at_hand entries c.ops_of.result.offsets.items paging 0 turn held
          (omega (arith, ap length all, length-map ts entry_of, c.requires.transmitters.most));
      at_hand = held;
    }

pub returns-clause-fills : goal.returns-clause-fills
unfolding placeholders
returns-clause-fills c =
    let ts : List Transmitter = c.args.plan.now.transmitters in
    let entries : List Entry = c.in_ok-entries.entries.items in
    let all : entries ≡ map entry_of ts = c.in_ok-entries.ensures.entries ∙ ap (map entry_of) c.as_slice.ensures in
    record {
      start = refl;
      max_delay = c.ops_of.ensures.max_delay;
      entries = all;
      paging = c.ops_of.ensures.paging ∙ ap (λ (es : List Entry). paging_of es 0) c.as_slice-2.ensures.value
          ∙ paging_of-same entries ts 0 (ap length all ∙ length-map ts entry_of)
          ∙ ap (paging_of ts) (sym (filled_groups-none []));
      counter = refl;
      filled = sym (is_filled-none [] 0 (omega arith));
    }

pub returns-clause-fit : goal.returns-clause-fit
returns-clause-fit c =
    subst (λ (ts : List Transmitter). All (λ t. IsEntry (entry_of t)) ts) c.as_slice.ensures c.in_ok-entries.ensures.fit
