-- What is done with a whole group.
use Rattle.std.proofs.Common.{◌≡◌, ℕ, ℤ, ◌%◌, ◌==◌, ◌&&◌, Bool, cond, Option, option_map, List, arith}
use Rattle.std.specs.Prelude.{nat_le}
use Rattle.std.specs.Option.{unwrap_or}
use Rattle.dtx_coder.specs.Groups.{Coding, IsCoded}
use Rattle.dtx_ops.specs.declared.fields.Ops.{Ops}
use Rattle.dtx_exciter.specs.declared.exciter.Exciter.{Exciter}
use Rattle.dtx_exciter.specs.declared.answers.Told.{Told}
use Rattle.dtx_exciter.specs.declared.pages.Pages.{Pages}
use Rattle.dtx_exciter.specs.Pages.{HoldsMore}
use Rattle.dtx_exciter.specs.Told.{is_sent}
use Rattle.dtx_exciter.specs.Step.{bytes_of, own_order, told_group, own_of, group_of, IsSent}

-- what the code does
pub record Does (old : Exciter) (j : ℕ) (order : Option Ops) (pages : Pages) (answered : Told) (sent sync : Bool)
    (states : Option (List ℕ)) (coder : Coding) (coded : ℕ) (count : ℕ) (symbols given : List ℤ) : Type 0 where
  pub order_is : order ≡ own_order old.flushed j (bytes_of old.packets)
  pub turned : HoldsMore old.address order old.pages pages
  pub told : answered ≡ told_group old.delay j order pages old.sent
  pub sent_is : sent ≡ is_sent answered
  pub sync_is : sync ≡ (sent && old.sent && (j % 312 == 0))
  pub states_are : states ≡ option_map (λ o. o.states) order
  pub codes : IsCoded old.coder (record {
    first = j % 312;
    second = nat_le 312 j;
    sync = sync;
    from = unwrap_or states old.coder.states;
    packets = bytes_of old.packets;
  }) coder coded symbols
  pub count_is : count ≡ cond sent coded 0
  pub symbols_are : given ≡ symbols

pub does_send : (old made : Exciter) (j : ℕ) (order : Option Ops) (pages : Pages) (answered : Told)
    (sent sync : Bool) (states : Option (List ℕ)) (coder : Coding) (coded count : ℕ) (symbols given : List ℤ)
    → Does old j order pages answered sent sync states coder coded count symbols given
    → made ≡ record old { sent = sent; pages = pages; coder = coder } → IsSent j old made answered count given
unfolding own_of group_of
does_send old made j order pages answered sent sync states coder coded count symbols given d m = grind arith
