use Rattle.sealed_file.proofs.sealing.seal_with_aad.Goals as goal

pub returns-clause-sealed : goal.returns-clause-sealed
returns-clause-sealed g c = rw (c.header.ensures.bytes, c.new-cipher.ensures.made) at c.seal_under.ensures.sealed

pub returns-clause-beginning : goal.returns-clause-beginning
returns-clause-beginning g c = rw (c.header.ensures.bytes, c.new-cipher.ensures.made) at c.seal_under.ensures.beginning
