-- What a begin of a lane alone found missing was missing before.
use Rattle.std.proofs.Common.{◌≡◌, Any, List, ap, sym, ◌∙◌}
use Rattle.pm_objects.specs.declared.calls.Want.{Want}
use Rattle.solo_lock.proofs.LookedAlone.{any_lacks_same, led_words}
use Rattle.solo_lock.specs.Lacking.{LacksObject}
use Rattle.solo_tx.proofs.RefusedBegins.{refusing_words}
use Rattle.solo_tx.specs.Begins.{HasFoundNone}
use Rattle.solo_view.specs.Founds.{IsAlone}
use Rattle.solo_view.specs.View.{View}
use Rattle.solo_world.specs.declared.lane.Lane.{Lane}

-- what a begin found missing was so before, where the lane is alone
pub lacks_alone : {M : Type 0} (at : M → View → Type 0) (lane : Lane M) (v : View) (wants : List Want) → HasFoundNone at lane v wants → IsAlone v → Any (LacksObject v) wants
lacks_alone at lane v wants was alone =
    let refused = was.refused in
    let same = refused.same in
    let words : refused.view.words ≡ v.words = ap (λ (u : View). u.words) refused.is ∙ (refusing_words refused.found _ _ lane.last ∙ led_words v refused.found refused.led alone) in
    any_lacks_same refused.view v (sym same.lanes) (sym same.zones) (sym same.pool) (sym words) wants was.lacking
