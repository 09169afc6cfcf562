use Rattle.std.proofs.Common.{rules}
use Rattle.dtx_outside.proofs.memory_shelf.MemoryShelfShelf.append.Goals as goal

pub returns-in-Ok-clause-after : goal.returns-in-Ok-clause-after
returns-in-Ok-clause-after c = search rules
