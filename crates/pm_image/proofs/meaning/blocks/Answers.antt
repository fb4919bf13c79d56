use Rattle.pm_image.proofs.meaning.blocks.Goals as goal

pub returns-in_ok-blocks_in-in-Ok-clause-in_no_pool : goal.returns-in_ok-blocks_in-in-Ok-clause-in_no_pool
returns-in_ok-blocks_in-in-Ok-clause-in_no_pool c = λ none.
    let shape = c.in-Ok.shape in
    absurd (none shape.lanes shape.zones (record {
      shape = record { lanes_from = shape.lanes_from; lanes_to = shape.lanes_to; zones_from = shape.zones_from; zones_to = shape.zones_to };
      size = (c.in-Ok.ensures {u = tt}).size;
    }))

pub returns-in-Err-Image-clause-in_a_pool : goal.returns-in-Err-Image-clause-in_a_pool
returns-in-Err-Image-clause-in_a_pool c = λ lanes zones has.
    let told = rw c.in-Err-Image.field-0-is at ((c.in-Err-Image.ensures {u = tt}).fault) in
    absurd (told.no_shape lanes zones has)
