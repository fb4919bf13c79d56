use Rattle.std.proofs.Common.{◌≤◌, ℕ, List, length, inl, ◌∙◌, ap, subst, arith, refl}
use Rattle.std.proofs.lemmas.List.{length-take-le}
use Rattle.pm_header.specs.Faults.{IsFault}
use Rattle.pm_image.proofs.meaning.header_of.Goals as goal

pub decode-requires : goal.decode-requires
decode-requires c =
    let size = c.requires in
    let long : 512 ≤ length c.args.image.now = omega arith in
    ap length c.words.ensures ∙ length-take-le 512 c.args.image.now long

pub returns-in-Err-clause-fault : goal.returns-in-Err-clause-fault
returns-in-Err-clause-fault c =
    inl (record {
      lanes = c.args.shape.lanes;
      zones = c.args.shape.zones;
      has_shape = record {
        shape = record { lanes_from = c.args.shape.lanes_from; lanes_to = c.args.shape.lanes_to; zones_from = c.args.shape.zones_from; zones_to = c.args.shape.zones_to };
        size = c.requires;
      };
      page_fault = c.in-Err.fault;
      is_page_fault = subst (λ (words : List ℕ). IsFault words c.in-Err.fault) c.words.ensures (c.in-Err.ensures {u = tt}).fault;
      is_header = refl;
    })
