-- The bytes that are looked at are those that `upto` answers. Given here, so that another number of bytes is refused as a number, and not by how long the prover counts.
use Rattle.listing.proofs.looked_at.Goals as goal

pub returns : goal.returns
returns c = c.upto.ensures
