-- What is done with a whole group.
use Rattle.std.proofs.Common.{◌≡◌, ℕ, ℤ, ◌%◌, ◌||◌, Bool, false, cond, Option, None, option_map, List, ◌++◌, nat_le}
use Rattle.std.proofs.Common.{is_some, arith}
use Rattle.std.specs.Option.{unwrap_or}
use Rattle.dtx_coder.specs.Groups.{Coding, IsCoded}
use Rattle.dtx_coder.specs.Groups as coder
use Rattle.dtx_coder.specs.declared.air.Air.{Air}
use Rattle.dtx_exciter.specs.Step.{bytes_of}
use Rattle.dtx_watch.specs.declared.notes.Note.{Note}
use Rattle.dtx_watch.specs.declared.telling.Expected.{Expected}
use Rattle.dtx_watch.specs.declared.watcher.Watcher.{Watcher}
use Rattle.dtx_watch.specs.Step.{group_at_hand, order_of, earliest, stamped_in, notes_in, lock_notes, expected_of}
use Rattle.dtx_watch.specs.Step.{states_in, group_of, IsEnded}

-- what the code does
pub record Does (old mid : Watcher) (expected : Expected) (states preset : Option (List ℕ)) (ordered : Bool)
    (made : Coding) (count : ℕ) (symbols : List ℤ) (given : List Note) : Type 0 where
  pub four : old.part ≡ 4
  pub expects : expected ≡ expected_of old
  pub told : given ≡ lock_notes old ++ notes_in (group_at_hand old expected) old.part
  pub latest : mid ≡ record old { latest = stamped_in (group_at_hand old expected) old.part }
  pub orders : states ≡ option_map (λ o. o.states) (earliest (order_of (group_at_hand old expected)) old.part)
  pub presets : preset ≡ cond mid.flushed states None
  pub ordered_is : ordered ≡ (mid.ordered || is_some preset)
  pub codes : IsCoded mid.coder (record {
    first = mid.first % 312;
    second = nat_le 312 mid.first;
    sync = false;
    from = unwrap_or preset mid.coder.states;
    packets = bytes_of mid.packets;
  }) made count symbols

abbrev with_latest : Watcher → Expected → ℕ → Watcher
with_latest old expected n = record old { latest = stamped_in (group_at_hand old expected) n }

pub does_end : (old mid : Watcher) (expected : Expected) (states preset : Option (List ℕ)) (ordered : Bool)
    (made : Coding) (count : ℕ) (symbols : List ℤ) (given : List Note) (air : Air)
    → Does old mid expected states preset ordered made count symbols given
    → IsEnded old (record mid { ordered = ordered; coder = made; air = air }) given
unfolding states_in group_of
does_end old mid expected states preset ordered made count symbols given air d = grind arith
