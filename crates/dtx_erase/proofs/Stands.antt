-- What is kept of one side of a run, with more segments.
use Rattle.std.proofs.Common.{◌≡◌, ℕ, ℤ, ◌+◌, ◌*◌, ◌%◌, ◌≤◌, List, [], ◌∷◌, ◌++◌, length, take, drop, sym, ap, ap₂, ◌∙◌}
use Rattle.std.proofs.Common.{arith}
use Rattle.dtx_laws.specs.Branches.{Branching, HasWidths, gathering, leaving_all, after_all}
use Rattle.dtx_outer.specs.Inner.{word_at}
use Rattle.dtx_receiver.specs.Bytes.{groups_of, bytes_in}
use Rattle.dtx_receiver.specs.Receiver.{AreGrouped, AreLevels, Grouping}
use Rattle.dtx_receiver.proofs.GroupedLemmas.{flat, groups_grown}
use Rattle.dtx_receiver.proofs.LevelsLemmas.{levels_sync}
use Rattle.dtx_receiver.proofs.SegmentsLemmas.{Still, still_sync, first_groups, first_bytes}
use Rattle.dtx_erase.specs.Sides.{Side, Holds, IsFurther}
use Rattle.dtx_erase.proofs.Gathered.{gathers_first, gathers_stay, gathers_more, words_more, Passed}

-- what is kept of one side, of its parts
abbrev pub side : Grouping → Branching → List ℕ → List ℕ → Side
side groups branches begun gathered =
    record { groups = groups; branches = branches; begun = begun; gathered = gathered }

pub holds_first : (x : List ℤ) (new : Side) → AreGrouped new.groups (x ∷ []) [] → new.groups.held ≡ []
    → HasWidths 52 (gathering 52 4) new.branches → new.branches.next ≡ 0 → Holds new (x ∷ [])
holds_first x new f n w a = record {
  levels = f.levels;
  none = n;
  gathers = gathers_first new.branches new.begun (bytes_in (x ∷ [])) (groups_of (x ∷ [])) w a (first_bytes x)
      (first_groups x);
}

pub holds_sync : (x : List ℤ) (kept : Side) (run : List (List ℤ)) → Holds kept run → length run % 313 ≡ 0
    → Holds kept (run ++ x ∷ [])
holds_sync x kept run d z =
    let s : Still run (run ++ x ∷ []) = still_sync run x d.levels.some z in
    record {
      levels = levels_sync x kept.groups.levels kept.groups.precoder_bits run d.levels z;
      none = d.none;
      gathers = gathers_stay kept.branches kept.begun _ _ _ _ (sym s.groups) (sym s.bytes) d.gathers;
    }

-- h groups more, of these bytes
pub further : (kept new : Side) (h : ℕ) (run longer : List (List ℤ)) (more : List ℕ) → Holds kept run
    → AreLevels new.groups.levels new.groups.precoder_bits longer → new.groups.held ≡ []
    → bytes_in longer ≡ bytes_in run ++ more
    → Passed kept.branches new.branches kept.begun new.gathered new.begun h more → IsFurther new h run longer
further kept new h run longer more d a n e p =
    let g : groups_of longer ≡ groups_of run + h = groups_grown run longer more h d.levels a e p.bytes in
    record {
      holds = record {
        levels = a;
        none = n;
        gathers = gathers_stay new.branches new.begun _ _ _ _ (sym g) (sym e) (grind (arith, gathers_more));
      };
      more = more;
      bytes = e;
      count = g;
      words = λ k q l i. words_more kept.branches new.branches kept.begun new.gathered new.begun (groups_of run) h
          (bytes_in run) more d.gathers p k q l i ∙ ap (λ y. word_at 207 52 4 y k) (sym e);
    }

-- the groups that were held, of which none is held now
pub further_held : (kept new : Side) (groups : Grouping) (h : ℕ) (run longer : List (List ℤ)) → Holds kept run
    → AreGrouped groups longer (bytes_in run) → new.groups ≡ record groups { held = [] }
    → Passed kept.branches new.branches kept.begun new.gathered new.begun h (flat groups.held)
    → IsFurther new h run longer
further_held kept new groups h run longer d g e p = grind (arith, further, flat)

-- the bytes that were held are laid out, and pass
pub held_passed : (kept laid new : Side) (h : ℕ) → length kept.begun ≡ 156 → h ≤ 13
    → laid ≡ record kept { groups = record (kept.groups) { held = [] }; gathered = laid.gathered }
    → take (828 * h) (drop 156 laid.gathered) ≡ flat kept.groups.held → length (flat kept.groups.held) ≡ 828 * h
    → new.branches ≡ after_all 52 laid.branches (take (828 * h) (drop 156 laid.gathered))
    → take (156 + 828 * h) new.gathered ≡ laid.begun
    ++ leaving_all 52 laid.branches (take (828 * h) (drop 156 laid.gathered))
    → new.begun ≡ take 156 (drop (828 * h) new.gathered)
    → Passed kept.branches new.branches kept.begun new.gathered new.begun h (flat kept.groups.held)
held_passed kept laid new h b f s y l v g e = record {
  few = f;
  long = b;
  bytes = l;
  branches = v ∙ ap₂ (after_all 52) (ap (λ (k : Side). k.branches) s) y;
  gathered = g ∙ ap₂ (λ (us ys : List ℕ). us ++ ys) (ap (λ (k : Side). k.begun) s)
      (ap₂ (leaving_all 52) (ap (λ (k : Side). k.branches) s) y);
  ends_are = e;
}
