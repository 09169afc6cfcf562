use Rattle.std.proofs.Common.{◌≡◌, ℕ, ◌+◌, ◌-◌, ◌*◌, ◌<◌, [], List, ◌++◌, length, slice_index_or, take, drop, ap}
use Rattle.std.proofs.Common.{◌∙◌, subst, arith, refl, sym}
use Rattle.std.proofs.lemmas.List.{get_or-set_other, length-set}
use Rattle.dtx_laws.specs.Branches.{leaving_all, after_all}
use Rattle.dtx_outer.specs.Inner.{Kept, IsTaken, StandsFor}
use Rattle.dtx_outer.specs.declared.inner.Taken.{Taken}
use Rattle.dtx_outer.specs.declared.inner.Taken.TheVariants.{None}
use Rattle.dtx_outer.proofs.Runs.{set_further}
use Rattle.dtx_outer.proofs.Ahead.{all_given, more_given, none_given, part_leaving, taken_of_four, was_before}
use Rattle.dtx_outer.proofs.inner.Inner.take_fours.Goals as goal

pub loop-q-init : goal.loop-q-init
loop-q-init g c =
    let is = c.self.view_is in
    let d = c.args.self.now in
    let ys : List ℕ = c.args.bytes.now in
    let now : Kept = record {
      white = g.W.Whitener.bytes c.self.inside.whitener;
      branches = g.G.Gather.seen c.gather.new.self;
      before = c.self.inside.before;
      waits = c.self.inside.waits;
      place = c.self.inside.place;
    } in
    let zero : g.row.N * 4 * 0 ≡ 0 = grind arith in
    record {
      white = ap (λ (k : Kept). k.white) is;
      branches = c.gather.ensures.seen ∙ ap (λ (k : Kept). after_all g.row.B k.branches ys) is;
      stands = λ y s. none_given g.row.N g.row.K g.row.B g.row.M now d.branches y ys (g.row.N * 4 * 0) zero
          (was_before g.row.N g.row.K g.row.B g.row.M d now y (ap (λ (k : Kept). k.white) is)
          (ap (λ (k : Kept). k.before) is) (ap (λ (k : Kept). k.waits) is) (ap (λ (k : Kept). k.place) is) s);
      taken = λ y q p s l h. absurd (omega (arith, l));
      later = λ q l. refl;
      outs = refl;
      long = refl;
    }

pub loop-q-preserved : goal.loop-q-preserved
loop-q-preserved g c =
    let i = c.loop-q.invariant in
    let q : ℕ = c.loop-q.q in
    let d = c.args.self.now in
    let ys : List ℕ = c.args.bytes.now in
    let a : ℕ = g.row.N * 4 * q in
    let v = after_all g.row.B d.branches (take a ys) in
    let zs : List ℕ = take (g.row.N * 4) (drop a ys) in
    let four : ℕ = g.row.N * 4 in
    let left : take (a + four - a) (drop a c.gather.new.bytes) ≡ leaving_all g.row.B v zs =
    ap (λ n. take n (drop a c.gather.new.bytes)) (omega arith)
    ∙ ap (λ xs. take four (drop a xs)) (c.gather.ensures.bytes
    ∙ ap (λ (k : Kept). leaving_all g.row.B k.branches ys) c.self.view_is)
    ∙ part_leaving g.row.B a four d.branches ys in
    let here : (y : List ℕ) (p : ℕ) → StandsFor g.row.N g.row.K g.row.B g.row.M d y → p < 4
    → IsTaken g.row.N g.row.K g.row.B g.row.M d.white (y ++ take (g.row.N * (4 * q + p)) ys)
    (take g.row.N (drop (g.row.N * (4 * q + p)) ys)) (slice_index_or (slice_index_or c.args.outs.now q []) p [])
    (slice_index_or c.take_gathered.new.outs p []) (slice_index_or c.take_gathered.result p None) =
    λ y p s m.
    taken_of_four g.row.N g.row.K g.row.B g.row.M d.white y ys
    (slice_index_or (slice_index_or c.args.outs.now q []) p []) (slice_index_or c.take_gathered.new.outs p [])
    (slice_index_or c.take_gathered.result p None) q p m
    (rw (← i.white) (subst (λ (old : List (List ℕ)). IsTaken g.row.N g.row.K g.row.B g.row.M c.loop-q.self.white
    ((y ++ take a ys) ++ take (g.row.N * p) zs) (take g.row.N (drop (g.row.N * p) zs)) (slice_index_or old p [])
    (slice_index_or c.take_gathered.new.outs p []) (slice_index_or c.take_gathered.result p None))
    (i.later q (omega arith))
    (c.take_gathered.ensures.taken v zs (y ++ take a ys) p left (i.stands y s) m))) in
    let next : a + four ≡ g.row.N * 4 * (q + 1) = grind arith in
    record {
      white = c.take_gathered.ensures.white ∙ i.white;
      branches = c.take_gathered.ensures.branches ∙ i.branches;
      stands = λ y s. more_given g.row.N g.row.K g.row.B g.row.M c.take_gathered.new.self d.branches y ys a four
          (g.row.N * 4 * (q + 1)) next
          (c.take_gathered.ensures.stands v zs (y ++ take a ys) left (i.stands y s));
      taken = λ y r p s h m. set_further c.loop-q.outs c.loop-q.taken q c.take_gathered.new.outs []
          c.take_gathered.result []
          (λ j (o : List (List ℕ)) (t : List Taken). IsTaken g.row.N g.row.K g.row.B g.row.M d.white
          (y ++ take (g.row.N * (4 * j + p)) ys) (take g.row.N (drop (g.row.N * (4 * j + p)) ys))
          (slice_index_or (slice_index_or c.args.outs.now j []) p []) (slice_index_or o p [])
          (slice_index_or t p None))
          (omega (arith, c.loop-q-test.true, i.outs)) (omega (arith, c.loop-q-test.true, i.long, c.requires.taken))
          (λ j l. i.taken y j p s l m) (here y p s m) r h;
      later = λ r h. get_or-set_other c.loop-q.outs q r c.take_gathered.new.outs [] (λ e. omega (arith, e, h))
          ∙ i.later r (omega (arith, h));
      outs = length-set c.loop-q.outs q c.take_gathered.new.outs ∙ i.outs;
      long = length-set c.loop-q.taken q c.take_gathered.result ∙ i.long;
    }

pub returns-clause-taken : goal.returns-clause-taken
returns-clause-taken g c = λ y q p s l m.
    c.loop-q.invariant.taken y q p s (omega (arith, l, c.loop-q-test.false)) m

pub returns-clause-stands : goal.returns-clause-stands
returns-clause-stands g c = λ y s.
    let i = c.loop-q.invariant in
    let q : ℕ = c.loop-q.q in
    let ys : List ℕ = c.args.bytes.now in
    let end : q ≡ length c.args.outs.now = omega (arith, c.loop-q-test.false, c.loop-q.auto.q-end) in
    let all : length ys ≡ g.row.N * 4 * q = c.requires.bytes ∙ ap (λ n. g.row.N * 4 * n) (sym end) in
    all_given g.row.N g.row.K g.row.B g.row.M c.loop-q.self c.args.self.now.branches y ys (g.row.N * 4 * q)
    (omega (arith, all)) i.branches (i.stands y s)
