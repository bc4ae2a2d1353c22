use Rattle.plant_folder.proofs.verdicts.fetched_verdict.Goals as goal

-- the texts that were lent are those that were fetched
pub returns : goal.returns
returns g c =
    let named = c.in_ok-sources.ensures in
    let lent = rw (c.as_slice-2.ensures.value, c.as_slice-3.ensures.value, c.as_slice-4.ensures.value) at c.verdict.ensures in
    rw (← c.fetched.view_is) (rw c.as_slice.ensures.value at (rw (named.names, named.texts) at lent))
