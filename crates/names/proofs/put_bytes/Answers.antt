-- `names::put_bytes` meets its contract: by what the library copies.
-- Assumes nothing.
use Rattle.names.proofs.Stores.{put-whole}
use Rattle.names.proofs.put_bytes.Goals as goal

pub returns : goal.returns
returns c = let a = c.args in put-whole a.bytes.now a.out.now a.at c.requires c.copy_from_slice.ensures.after
