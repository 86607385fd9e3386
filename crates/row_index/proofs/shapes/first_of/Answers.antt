use Rattle.row_index.proofs.shapes.first_of.Goals as goal

pub returns : goal.returns
returns c = rw c.as_slice.ensures.value at c.first_of.ensures
