-- What a memory of one lane says of a view: its numbers are the lane's own, its calls are within the stop number, and an image of the memory is one of
-- the view's words and changes.
use Rattle.std.proofs.Common.{ℕ, ◌≤◌, Option, List, [], ◌∷◌, sym, subst}
use Rattle.std.specs.Option.{ForSome}
use Rattle.pm_header.specs.declared.header.Header.{Header}
use Rattle.pm_objects.specs.declared.pool.PoolView.{PoolView}
use Rattle.solo_view.specs.declared.change.Change.{Change}
use Rattle.solo_view.specs.Steps.{Step}
use Rattle.solo_view.specs.View.{View}
use Rattle.solo_memory.specs.Keep.{IsKeptImage}
use Rattle.solo_memory.specs.Solo.{Sees, Solo}
use Rattle.solo_world.specs.Opening.{Opening}
use Rattle.solo_crash.specs.Alone.{Begins, WorksAlone}
use Rattle.solo_crash.specs.Leading.{Leads}

pub works_where_seen : (o : Opening) (header : Header) (pool : PoolView) (m : Solo) (v w : View) (steps : List Step) → Begins o header pool v → Leads v steps w → Sees m w → WorksAlone o header pool v steps w
works_where_seen o header pool m v w steps begins leads sees = record {
  begins = begins;
  leads = leads;
  numbered = sees.numbers;
  within = subst (λ (stop : Option ℕ). ForSome stop (λ s. w.calls ≤ s)) (sym sees.stop) sees.within;
}

pub image_where_seen : (m : Solo) (w : View) (keep : ℕ) (image : List ℕ) → Sees m w → IsKeptImage keep m.words (m.changes ∷ []) image → IsKeptImage keep w.words (w.changes ∷ []) image
image_where_seen m w keep image sees is =
    subst (λ (words : List ℕ). IsKeptImage keep words (w.changes ∷ []) image) (sym sees.words)
    (subst (λ (changes : List Change). IsKeptImage keep m.words (changes ∷ []) image) (sym sees.changes) is)
