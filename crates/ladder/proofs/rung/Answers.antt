use Rattle.ladder.proofs.Table.{greatest_read, speed_read}
use Rattle.ladder.proofs.rung.Goals as goal

-- the search finds the table, and the test runs over all of it
pub returns : goal.returns
returns c =
    let h = c.get.ensures.lookup in
    record { value = search (speed_read, h); greatest = search (greatest_read, h) }
