use Rattle.std.proofs.Common.{◌≡◌, ℕ, zero, suc, ◌<◌, ℤ, pos, ◌*ℤ◌, ◌-ℤ◌, refl, arith, to_z, of_z, w8}
use Rattle.std.proofs.lemmas.List.{get_or-set_same, get_or-set_other, length-set}
use Rattle.dtx_trellis.specs.Trellis.{symbol_of}
use Rattle.dtx_trellis.proofs.walk.store_last.Goals as goal

-- a level's symbol, as signed bytes give it
abbrev level_symbol : ℕ → ℤ
level_symbol z = to_z w8 (of_z w8 (to_z w8 (of_z w8 (pos 2 *ℤ to_z w8 z)) -ℤ pos 7))

level_symbol_is : (z : ℕ) → z < 8 → level_symbol z ≡ symbol_of z
unfolding symbol_of
level_symbol_is zero l = refl
level_symbol_is (suc zero) l = refl
level_symbol_is (suc (suc zero)) l = refl
level_symbol_is (suc (suc (suc zero))) l = refl
level_symbol_is (suc (suc (suc (suc zero)))) l = refl
level_symbol_is (suc (suc (suc (suc (suc zero))))) l = refl
level_symbol_is (suc (suc (suc (suc (suc (suc zero)))))) l = refl
level_symbol_is (suc (suc (suc (suc (suc (suc (suc zero))))))) l = refl
level_symbol_is (suc (suc (suc (suc (suc (suc (suc (suc z)))))))) l = absurd (omega arith)

pub loop-p-preserved : goal.loop-p-preserved
loop-p-preserved c = grind (arith, length-set, get_or-set_other, get_or-set_same, level_symbol_is)
