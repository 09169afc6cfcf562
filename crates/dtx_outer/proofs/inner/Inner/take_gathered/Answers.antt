use Rattle.std.proofs.Common.{◌≡◌, ℕ, ◌*◌, ◌<◌, [], List, ◌++◌, length, slice_index_or, take, drop, ap, sym, ◌∙◌, subst}
use Rattle.std.proofs.Common.{arith, refl, suc}
use Rattle.std.proofs.lemmas.List.{get_or-set_other, length-set}
use Rattle.dtx_laws.specs.Branches.{Branching, leaving_all, after_all}
use Rattle.dtx_laws.proofs.PlacesLemmas.{length_leaving}
use Rattle.dtx_outer.specs.Inner.{Kept, IsTaken, StandsFor, completing, block_behind}
use Rattle.dtx_outer.specs.declared.inner.Taken.{Taken}
use Rattle.dtx_outer.specs.declared.inner.Taken.TheVariants.{None}
use Rattle.dtx_outer.proofs.Runs.{between_first, between_next, between_taken, between_last, block_long, set_further}
use Rattle.dtx_outer.proofs.inner.Inner.take_gathered.Goals as goal

pub loop-p-init : goal.loop-p-init
loop-p-init g c =
    let e = c.next_words.ensures.kept in
    let d = c.args.self.now in
    record {
      white = ap (λ (k : Kept). k.white) e;
      branches = ap (λ (k : Kept). k.branches) e;
      before = ap (λ (k : Kept). k.before) e;
      stands = λ v ys y left s. between_first g.row.N g.row.K g.row.B g.row.M (record d { branches = v })
          c.next_words.new.self y ys (ap (λ (k : Kept). k.white) e) (ap (λ (k : Kept). k.waits) e)
          (ap (λ (k : Kept). k.place) e) s;
      taken = λ v ys y p left s l. absurd (omega (arith, l));
      later = λ p l. refl;
      outs = c.told-outs;
      long = refl;
    }

pub loop-p-preserved : goal.loop-p-preserved
loop-p-preserved g c =
    let i = c.loop-p.invariant in
    let p : ℕ = c.loop-p.p in
    let l : p < 4 = c.loop-p-test.true in
    let d = c.args.self.now in
    let gathered : List ℕ = c.args.gathered.now in
    let code = c.known.ensures.code in
    let x = c.give_next.ensures.kept in
    let word : List ℕ = slice_index_or c.next_words.new.words p [] in
    let window = λ (xs : List ℕ). drop (completing g.row.N g.row.B g.row.M) (block_behind g.row.N d.before xs p)
    ++ take (completing g.row.N g.row.B g.row.M) (block_behind g.row.N d.before xs (suc p)) in
    let block : (v : Branching) (ys : List ℕ) → gathered ≡ leaving_all g.row.B v ys
    → length (take g.row.N (drop (g.row.N * p) ys)) ≡ g.row.N =
    λ v ys left. block_long g.row.N p ys (sym (ap length left ∙ length_leaving g.row.B v ys) ∙ c.requires) l in
    let here : (v : Branching) (ys y : List ℕ) → gathered ≡ leaving_all g.row.B v ys
    → StandsFor g.row.N g.row.K g.row.B g.row.M (record d { branches = v }) y
    → IsTaken g.row.N g.row.K g.row.B g.row.M d.white (y ++ take (g.row.N * p) ys)
    (take g.row.N (drop (g.row.N * p) ys)) (slice_index_or c.args.outs.now p []) c.give_next.new.out
    c.give_next.result =
    λ v ys y left s. rw (← i.white)
    (subst (λ (old : List ℕ). IsTaken g.row.N g.row.K g.row.B g.row.M c.loop-p.self.white
    (y ++ take (g.row.N * p) ys) (take g.row.N (drop (g.row.N * p) ys)) old c.give_next.new.out
    c.give_next.result) (i.later p (omega arith))
    (between_taken g.row.N g.row.K g.row.B g.row.M (record d { branches = v }) c.loop-p.self y ys word
    (slice_index_or c.loop-p.outs p []) c.give_next.new.out p c.give_next.result
    (omega (arith, code.some, code.longer)) c.known.ensures.numbers (block v ys left) (i.stands v ys y left s)
    (c.next_words.ensures.words p l ∙ ap window left) c.give_next.ensures.waiting
    (λ z. c.give_next.ensures.given z word (c.correct_four-corrected.ensures p l)))) in
    record {
      white = x.white ∙ i.white;
      branches = x.branches ∙ i.branches;
      before = x.before ∙ i.before;
      stands = λ v ys y left s. between_next g.row.N g.row.K g.row.B g.row.M g.W.Whitener.PERIOD
          (record d { branches = v }) c.loop-p.self c.give_next.new.self y ys p (omega (arith, code.some))
          c.known.ensures.period (ap length i.white ∙ c.known.ensures.long) (block v ys left)
          (i.stands v ys y left s) x;
      taken = λ v ys y q left s h. set_further c.loop-p.outs c.loop-p.taken p c.give_next.new.out []
          c.give_next.result None
          (λ j (o : List ℕ) (t : Taken). IsTaken g.row.N g.row.K g.row.B g.row.M d.white (y ++ take (g.row.N * j) ys)
          (take g.row.N (drop (g.row.N * j) ys)) (slice_index_or c.args.outs.now j []) o t)
          (omega (arith, l, i.outs)) (omega (arith, l, i.long)) (λ j m. i.taken v ys y j left s m)
          (here v ys y left s) q h;
      later = λ q h. get_or-set_other c.loop-p.outs p q c.give_next.new.out [] (λ e. omega (arith, e, h))
          ∙ i.later q (omega (arith, h));
      outs = length-set c.loop-p.outs p c.give_next.new.out ∙ i.outs;
      long = length-set c.loop-p.taken p c.give_next.result ∙ i.long;
    }

pub returns-clause-taken : goal.returns-clause-taken
returns-clause-taken g c = λ v ys y p left s l.
    c.loop-p.invariant.taken v ys y p left s (omega (arith, l, c.loop-p-test.false))

pub returns-clause-stands : goal.returns-clause-stands
returns-clause-stands g c = λ v ys y left s.
    let i = c.loop-p.invariant in
    let d = c.args.self.now in
    between_last g.row.N g.row.K g.row.B g.row.M (record d { branches = v })
    (record c.loop-p.self { branches = after_all g.row.B v ys }) y ys c.loop-p.p
    (omega (arith, c.loop-p-test.false, c.loop-p.auto.p-end))
    (sym (ap length left ∙ length_leaving g.row.B v ys) ∙ c.requires) refl
    (i.before ∙ ap (λ xs. block_behind g.row.N d.before xs 4) left) (i.stands v ys y left s)
