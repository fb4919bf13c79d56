-- Apart calls change places, so one that is apart from all later ones may come last, or be left
-- out.
use Rattle.std.proofs.Common.{◌≡◌, ⊎_elim, List, [], ◌∷◌, Bool, true, false, not, cond, refl, sym, ◌∙◌, subst}
use Rattle.std.specs.List.{filter}
use Rattle.std.proofs.lemmas.Bool.{cases_Bool, false≢true, false_from_ne_true}
use Rattle.pm_model.specs.Framed.{IsFramed, AreApart, AreAllApart, MayBeLeftOut, IsUnwritten, Follows}

module _ {S N X E : Type 0} (content : S → N → X) (steps : S → E → S → Type 0)
    (writes touches : E → N → Bool)
    (framed : (a : E) → IsFramed content steps writes touches a)
    (touched : (a : E) (n : N) → writes a n ≡ true → touches a n ≡ true)
    (same : (s t : S) → ((n : N) → content s n ≡ content t n) → s ≡ t) where
  abbrev Apart : E → E → Type 0
  Apart a b = AreApart writes touches a b

  apart_back : (a b : E) → Apart a b → Apart b a
  apart_back a b apart = record { first = apart.second; second = apart.first }

  -- a doesn't write what b touches
  unwritten : (a b : E) → Apart a b → (n : N) → touches b n ≡ true → writes a n ≡ false
  unwritten a b apart n touch = false_from_ne_true (writes a n)
      (λ w. false≢true (sym (apart.first n w) ∙ touch))

  -- neighbours that are apart change places
  pub swapped : (a b : E) (s t u : S) → Apart a b → steps s a t → steps t b u → (t' : S)
      × steps s b t' × steps t' a u
  swapped a b s t u apart one two =
      let earlier : (t' : S) × steps s b t'
      × ((n : N) → writes b n ≡ true → content t' n ≡ content u n) =
      (framed b).local t u s two
      (λ n touch. sym ((framed a).keeps s t one n (unwritten a b apart n touch))) in
      let t' : S = earlier.0 in
      let before : steps s b t' = earlier.1 in
      let later : (u' : S) × steps t' a u'
      × ((n : N) → writes a n ≡ true → content u' n ≡ content t n) =
      (framed a).local s t t' one
      (λ n touch. (framed b).keeps s t' before n
      (unwritten b a (apart_back a b apart) n touch)) in
      let u' : S = later.0 in
      let alike : (n : N) → content u' n ≡ content u n = λ n. ⊎_elim
      (λ (w : writes a n ≡ true). later.2 n w
      ∙ sym ((framed b).keeps t u two n
      (unwritten b a (apart_back a b apart) n (touched a n w))))
      (λ (off : writes a n ≡ false). (framed a).keeps t' u' later.1 n off ∙ ⊎_elim
      (λ (w : writes b n ≡ true). earlier.2 n w)
      (λ (none : writes b n ≡ false). (framed b).keeps s t' before n none
      ∙ (sym ((framed a).keeps s t one n off) ∙ sym ((framed b).keeps t u two n none)))
      (cases_Bool (writes b n)))
      (cases_Bool (writes a n)) in
      (t', before, subst (λ (v : S). steps t' a v) (same u' u alike) later.1)

  -- a call that is apart from all that follow may come last
  pub comes_last : (a : E) (calls : List E) (s t u : S) → AreAllApart writes touches a calls
      → steps s a t → Follows steps t calls u
      → (u' : S) × Follows steps s calls u' × steps u' a u
  comes_last a [] s t u apart one rest = (s, refl, subst (λ (v : S). steps s a v) (sym rest) one)
  comes_last a (b ∷ calls) s t u apart one rest =
      let swap : (t' : S) × steps s b t'
      × steps t' a rest.0 = swapped a b s t rest.0 apart.0 one rest.1 in
      let end : (u' : S) × Follows steps swap.0 calls u' × steps u' a u =
      comes_last a calls swap.0 rest.0 u apart.1 swap.2 rest.2 in
      (end.0, (swap.0, swap.1, end.1), end.2)

  -- a call that came last stands as well before those from which it is apart
  pub comes_first : (a : E) (calls : List E) (s u' u : S) → AreAllApart writes touches a calls
      → Follows steps s calls u' → steps u' a u
      → (t : S) × steps s a t × Follows steps t calls u
  comes_first a [] s u' u apart before last = (u, subst (λ (v : S). steps v a u) before last, refl)
  comes_first a (b ∷ calls) s u' u apart before last =
      let m : S = before.0 in
      let inner : (t : S) × steps m a t
      × Follows steps t calls u = comes_first a calls m u' u apart.1 before.2 last in
      let swap : (t' : S) × steps s a t'
      × steps t' b inner.0 = swapped b a s m inner.0
      (apart_back a b apart.0) before.1 inner.1 in
      (swap.0, swap.1, (inner.0, swap.2, inner.2))

  -- calls that are apart from all later ones may be left out: the rest goes as before, and what
  -- they don't write ends as before
  pub leaves_out : (left_out : E → Bool) (calls : List E) (s u : S)
      → MayBeLeftOut writes touches left_out calls → Follows steps s calls u
      → (u' : S) × Follows steps s (filter (λ a. not (left_out a)) calls) u'
      × ((n : N) → IsUnwritten writes left_out calls n → content u' n ≡ content u n)
  leaves_out left_out [] s u may rest = (u, rest, λ n none. refl)
  leaves_out left_out (a ∷ calls) s u may rest = ⊎_elim
      (λ (out : left_out a ≡ true).
      let last : (v : S) × Follows steps s calls v
      × steps v a u = comes_last a calls s rest.0 u (may.0 out) rest.1 rest.2 in
      let inner : (u' : S) × Follows steps s (filter (λ b. not (left_out b)) calls) u'
      × ((n : N) → IsUnwritten writes left_out calls n → content u' n ≡ content last.0 n) =
      leaves_out left_out calls s last.0 may.1 last.1 in (
        inner.0,
        subst (λ (b : Bool). Follows steps s
            (cond (not b) (a ∷ filter (λ c. not (left_out c)) calls)
            (filter (λ c. not (left_out c)) calls)) inner.0) (sym out) inner.1,
        λ n none. inner.2 n none.1 ∙ sym ((framed a).keeps last.0 u last.2 n (none.0 out)),
      ))
      (λ (kept : left_out a ≡ false).
      let m : S = rest.0 in
      let inner : (u' : S) × Follows steps m (filter (λ b. not (left_out b)) calls) u'
      × ((n : N) → IsUnwritten writes left_out calls n → content u' n ≡ content u n) =
      leaves_out left_out calls m u may.1 rest.2 in (
        inner.0,
        subst (λ (b : Bool). Follows steps s
            (cond (not b) (a ∷ filter (λ c. not (left_out c)) calls)
            (filter (λ c. not (left_out c)) calls)) inner.0) (sym kept) (m, rest.1, inner.1),
        λ n none. inner.2 n none.1,
      ))
      (cases_Bool (left_out a))
