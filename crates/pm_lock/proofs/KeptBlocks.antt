-- What is known of blocks stays as locks are taken and raised.
use Rattle.std.proofs.Common.{◌≡◌, ℕ, Bool, List, [], ◌∷◌, refl, sym, ◌∙◌, subst}
use Rattle.pm_view.specs.Claims.{Claim, Raised, Took, class, header_in}
use Rattle.pm_view.specs.Places.{Block, Small, Big, Root}
use Rattle.pm_view.specs.Steps.{Step}
use Rattle.pm_view.specs.View.{View}
use Rattle.pm_world.specs.declared.lane.HeldLock.{HeldLock}
use Rattle.pm_lock.specs.Held.{KeepsBlocks, RaisedKeepBlocks, TakenKeepBlocks}
use Rattle.pm_lock.specs.Holding.{took}
use Rattle.pm_lock.specs.Objects.{IsKnownIn}
use Rattle.pm_lock.specs.Raising.{is_raised, rose}
use Rattle.pm_lock.proofs.RaisedClaims.{are_raised}

module _ (v : View) (t : List Claim) where
  abbrev at : List Claim → View
  at t = record v { claims = t }

  known : (t' : List Claim) → ((c : ℕ) → class t' c ≡ class t c) → (B : Block) → IsKnownIn (at t) B → IsKnownIn (at t') B
  known t' same (Small c i) k = λ z. k (sym (same c) ∙ z)
  known t' same (Big f) k = tt
  known t' same Root k = tt

  took_one : (m : ℕ) (w : Bool) → KeepsBlocks (at t) (at (Took m w ∷ t))
  took_one m w = record {
    sound = λ s. record { small = s.small; some = s.some; zone = s.zone; huge = s.huge };
    stands = λ line s. record { block = s.block; inside = s.inside; known = known (Took m w ∷ t) (λ c. refl) s.block s.known; begins = begins s.block ∙ s.begins; found = s.found };
    missed = λ B. refl;
  }
    where
      begins : (B : Block) → header_in v.fixed.shape (Took m w ∷ t) B ≡ header_in v.fixed.shape t B
      begins (Small c i) = refl
      begins (Big f) = refl
      begins Root = refl

  rose_one : (m : ℕ) → KeepsBlocks (at t) (at (Raised m ∷ t))
  rose_one m = record {
    sound = λ s. record { small = s.small; some = s.some; zone = s.zone; huge = s.huge };
    stands = λ line s. record { block = s.block; inside = s.inside; known = known (Raised m ∷ t) (λ c. refl) s.block s.known; begins = begins s.block ∙ s.begins; found = s.found };
    missed = λ B. refl;
  }
    where
      begins : (B : Block) → header_in v.fixed.shape (Raised m ∷ t) B ≡ header_in v.fixed.shape t B
      begins (Small c i) = refl
      begins (Big f) = refl
      begins Root = refl

keeps_on : (v u w : View) → KeepsBlocks v u → KeepsBlocks u w → KeepsBlocks v w
keeps_on v u w a b = record { sound = λ s. b.sound (a.sound s); stands = λ line s. b.stands line (a.stands line s); missed = λ B. b.missed B ∙ a.missed B }

keeps_here : (v : View) (seen : List Step) → KeepsBlocks v (record v { seen = seen })
keeps_here v seen = record {
  sound = λ s. record { small = s.small; some = s.some; zone = s.zone; huge = s.huge };
  stands = λ line s. record { block = s.block; inside = s.inside; known = same s.block s.known; begins = s.begins; found = s.found };
  missed = λ B. refl;
}
  where
    same : (B : Block) → IsKnownIn v B → IsKnownIn (record v { seen = seen }) B
    same (Small c i) k = k
    same (Big f) k = tt
    same Root k = tt

took_keeps : (v : View) (locks : List HeldLock) (t : List Claim) → KeepsBlocks (record v { claims = t }) (record v { claims = took locks t })
took_keeps v [] t = keeps_here (record v { claims = t }) v.seen
took_keeps v (l ∷ locks) t = keeps_on (record v { claims = t }) (record v { claims = Took l.line l.write ∷ t }) (record v { claims = took locks (Took l.line l.write ∷ t) }) (took_one v t l.line l.write) (took_keeps v locks (Took l.line l.write ∷ t))

rose_keeps : (v : View) (locks : List HeldLock) (t : List Claim) → KeepsBlocks (record v { claims = t }) (record v { claims = rose locks t })
rose_keeps v [] t = keeps_here (record v { claims = t }) v.seen
rose_keeps v (l ∷ locks) t = keeps_on (record v { claims = t }) (record v { claims = Raised l.line ∷ t }) (record v { claims = rose locks (Raised l.line ∷ t) }) (rose_one v t l.line) (rose_keeps v locks (Raised l.line ∷ t))

pub taken_keep : TakenKeepBlocks
taken_keep v w locks taken = subst (KeepsBlocks v) (sym taken) (keeps_on v (record v { claims = took locks v.claims }) (record v { claims = took locks v.claims; seen = w.seen }) (took_keeps v locks v.claims) (keeps_here (record v { claims = took locks v.claims }) w.seen))

pub raised_keep : RaisedKeepBlocks
raised_keep v writes locks =
    let r = are_raised writes v locks in
    let ls : List HeldLock = Rattle.std.specs.Prelude.filter (is_raised writes) locks in
    subst (KeepsBlocks v) (sym r.same) (keeps_on v (record v { claims = rose ls v.claims }) _ (rose_keeps v ls v.claims) (keeps_here (record v { claims = rose ls v.claims }) _))
