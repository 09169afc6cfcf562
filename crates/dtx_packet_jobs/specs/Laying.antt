-- What the engine of `hurt` keeps.
use Rattle.std.specs.Prelude.{◌≡◌, ℕ, List, length}
use Rattle.dtx_plan.specs.Sound.{AreDamages}
use Rattle.dtx_make.specs.Hurt.{damaged_places}
use Rattle.dtx_packet_jobs.specs.declared.laying.Laying.{Laying}

-- the state after these bytes: the damage, whose entries are in order, was laid over them, and they were counted
pub record HasLaid (state : Laying) (given : List ℕ) : Type 0 where
  pub damages : AreDamages state.damage.now
  pub count : state.count ≡ length given
  pub damaged : state.damaged ≡ damaged_places state.damage.now (length given)
