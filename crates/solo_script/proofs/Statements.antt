-- What the words of a line say.
use Rattle.std.proofs.Common.{◌≡◌, ◌<◌, ℕ, Bool, true, false, cond, ltb, nat_eq, All, List, [], ◌∷◌, map, drop, codes, Option, None, Some, is_some, refl, sym, ap, subst}
use Rattle.std.specs.List.{cons_option, filter_map, starts_with}
use Rattle.std.specs.Option.{option_and_then, option_map, option_map_or}
use Rattle.std.proofs.lemmas.Bool.{ltb-true}
use Rattle.std.proofs.lemmas.List.Elements.{All-nil, All-cons}
use Rattle.solo_script.specs.Contexts.{Context}
use Rattle.solo_script.specs.Numbers.{number_of}
use Rattle.solo_script.specs.Operands.{bytes_of, id_of, letter_of, size_of, want_of, wanted}
use Rattle.solo_script.specs.Reading.{HasLane, form_why, keyword_said}
use Rattle.solo_script.specs.Scripts.{ids_of, keyword_of, said, statement_of}
use Rattle.solo_script.specs.declared.fault.Why.{Why}
use Rattle.solo_script.specs.declared.fault.Why.TheVariants.{Number, LaneNumber}
use Rattle.solo_script.specs.declared.script.ScriptId.{ScriptId}
use Rattle.solo_script.specs.declared.script.ScriptOp.TheVariants as op
use Rattle.solo_script.specs.declared.script.ScriptWant.{ScriptWant}
use Rattle.solo_script.specs.declared.statement.Keyword.{Keyword}
use Rattle.solo_script.specs.declared.statement.Keyword.TheVariants.{Lane, Begin, Add, Write, Read, Alloc, Free, Reserve, Put, Defer, Set, Publish, Cancel, Commit}
use Rattle.solo_script.specs.declared.statement.Statement.{Statement}
use Rattle.solo_script.specs.declared.statement.Statement.TheVariants as says

-- a step that gave a value
found : {A B : Type 0} (from : Option A) (next : A → Option B) (b : B) → option_and_then next from ≡ Some b → (a : A) × (next a ≡ Some b) × (from ≡ Some a)
found (Some a) next b is = (a, is, refl)
found None next b is = cc

same_some : {A : Type 0} {a b : A} → Some a ≡ Some b → a ≡ b
same_some e = cc

of_lane : (number : Option ℕ) (statement : Statement) → option_map says.Lane number ≡ Some statement → keyword_said statement ≡ Lane
of_lane (Some lane) statement is = sym (ap keyword_said (same_some is))
of_lane None statement is = cc

-- a statement has the first word of its line
pub keyword_is : (context : Context) (keyword : Keyword) (operands : List (List ℕ)) (statement : Statement) → statement_of context keyword operands ≡ Some statement → keyword_said statement ≡ keyword
keyword_is context Lane [] statement is = cc
keyword_is context Lane (lane ∷ []) statement is = of_lane (number_of lane) statement is
keyword_is context Lane (lane ∷ x ∷ more) statement is = cc
keyword_is context Begin wants statement is = sym (ap keyword_said (same_some is))
keyword_is context Add [] statement is = cc
keyword_is context Add (id ∷ []) statement is = cc
keyword_is context Add (id ∷ off ∷ []) statement is = cc
keyword_is context Add (id ∷ off ∷ len ∷ []) statement is =
    let a = found (id_of context id) _ statement is in
    let b = found (number_of off) _ statement a.1 in
    let c = found (number_of len) _ statement b.1 in
    sym (ap keyword_said (same_some c.1))
keyword_is context Add (id ∷ off ∷ len ∷ x ∷ more) statement is = cc
keyword_is context Write [] statement is = cc
keyword_is context Write (id ∷ []) statement is = cc
keyword_is context Write (id ∷ off ∷ []) statement is = cc
keyword_is context Write (id ∷ off ∷ hex ∷ []) statement is =
    let a = found (id_of context id) _ statement is in
    let b = found (number_of off) _ statement a.1 in
    let c = found (bytes_of hex) _ statement b.1 in
    sym (ap keyword_said (same_some c.1))
keyword_is context Write (id ∷ off ∷ hex ∷ x ∷ more) statement is = cc
keyword_is context Read [] statement is = cc
keyword_is context Read (id ∷ []) statement is = cc
keyword_is context Read (id ∷ off ∷ []) statement is = cc
keyword_is context Read (id ∷ off ∷ len ∷ []) statement is =
    let a = found (id_of context id) _ statement is in
    let b = found (number_of off) _ statement a.1 in
    let c = found (size_of len) _ statement b.1 in
    sym (ap keyword_said (same_some c.1))
keyword_is context Read (id ∷ off ∷ len ∷ x ∷ more) statement is = cc
keyword_is context Alloc [] statement is = cc
keyword_is context Alloc (letter ∷ []) statement is = cc
keyword_is context Alloc (letter ∷ size ∷ []) statement is = cc
keyword_is context Alloc (letter ∷ size ∷ kind ∷ []) statement is =
    let a = found (letter_of letter) _ statement is in
    let b = found (number_of size) _ statement a.1 in
    let c = found (number_of kind) _ statement b.1 in
    sym (ap keyword_said (same_some c.1))
keyword_is context Alloc (letter ∷ size ∷ kind ∷ x ∷ more) statement is = cc
keyword_is context Free [] statement is = cc
keyword_is context Free (id ∷ []) statement is = sym (ap keyword_said (same_some (found (id_of context id) _ statement is).1))
keyword_is context Free (id ∷ x ∷ more) statement is = cc
keyword_is context Reserve [] statement is = cc
keyword_is context Reserve (letter ∷ []) statement is = cc
keyword_is context Reserve (letter ∷ size ∷ []) statement is = cc
keyword_is context Reserve (letter ∷ size ∷ kind ∷ []) statement is =
    let a = found (letter_of letter) _ statement is in
    let b = found (number_of size) _ statement a.1 in
    let c = found (number_of kind) _ statement b.1 in
    sym (ap keyword_said (same_some c.1))
keyword_is context Reserve (letter ∷ size ∷ kind ∷ x ∷ more) statement is = cc
keyword_is context Put [] statement is = cc
keyword_is context Put (id ∷ []) statement is = cc
keyword_is context Put (id ∷ off ∷ []) statement is = cc
keyword_is context Put (id ∷ off ∷ hex ∷ []) statement is =
    let a = found (id_of context id) _ statement is in
    let b = found (number_of off) _ statement a.1 in
    let c = found (bytes_of hex) _ statement b.1 in
    sym (ap keyword_said (same_some c.1))
keyword_is context Put (id ∷ off ∷ hex ∷ x ∷ more) statement is = cc
keyword_is context Defer [] statement is = cc
keyword_is context Defer (id ∷ []) statement is = sym (ap keyword_said (same_some (found (id_of context id) _ statement is).1))
keyword_is context Defer (id ∷ x ∷ more) statement is = cc
keyword_is context Set [] statement is = cc
keyword_is context Set (id ∷ []) statement is = cc
keyword_is context Set (id ∷ off ∷ []) statement is = cc
keyword_is context Set (id ∷ off ∷ value ∷ []) statement is =
    let a = found (id_of context id) _ statement is in
    let b = found (number_of off) _ statement a.1 in
    let c = found (number_of value) _ statement b.1 in
    sym (ap keyword_said (same_some c.1))
keyword_is context Set (id ∷ off ∷ value ∷ x ∷ more) statement is = cc
keyword_is context Publish [] statement is = sym (ap keyword_said (same_some is))
keyword_is context Publish (x ∷ more) statement is = cc
keyword_is context Cancel [] statement is = sym (ap keyword_said (same_some is))
keyword_is context Cancel (x ∷ more) statement is = cc
keyword_is context Commit [] statement is = sym (ap keyword_said (same_some is))
keyword_is context Commit (x ∷ more) statement is = cc

test_passed : (b : Bool) (why : Why) → cond b None (Some why) ≡ None → b ≡ true
test_passed true why fine = refl
test_passed false why fine = cc

low_lane : (number : Option ℕ) (lane : ℕ) → option_map says.Lane number ≡ Some (says.Lane lane)
    → cond (is_some number) (cond (option_map_or (λ n. ltb n 32) number false) None (Some LaneNumber)) (Some Number) ≡ None → lane < 32
low_lane None lane is fine = cc
low_lane (Some n) lane is fine = let same : n ≡ lane = let e = same_some is in cc in subst (λ m. m < 32) same (ltb-true n 32 (test_passed (ltb n 32) LaneNumber fine))

-- a lane that a good line names is one of the 32
pub has_lane : (context : Context) (keyword : Keyword) (operands : List (List ℕ)) (statement : Statement) → statement_of context keyword operands ≡ Some statement → form_why context keyword operands ≡ None → HasLane statement
has_lane context keyword operands (says.Operation operation) is fine = tt
has_lane context Lane [] (says.Lane lane) is fine = cc
has_lane context Lane (word ∷ []) (says.Lane lane) is fine = low_lane (number_of word) lane is fine
has_lane context Lane (word ∷ x ∷ more) (says.Lane lane) is fine = cc
has_lane context Begin operands (says.Lane lane) is fine = let e = keyword_is context Begin operands (says.Lane lane) is in cc
has_lane context Add operands (says.Lane lane) is fine = let e = keyword_is context Add operands (says.Lane lane) is in cc
has_lane context Write operands (says.Lane lane) is fine = let e = keyword_is context Write operands (says.Lane lane) is in cc
has_lane context Read operands (says.Lane lane) is fine = let e = keyword_is context Read operands (says.Lane lane) is in cc
has_lane context Alloc operands (says.Lane lane) is fine = let e = keyword_is context Alloc operands (says.Lane lane) is in cc
has_lane context Free operands (says.Lane lane) is fine = let e = keyword_is context Free operands (says.Lane lane) is in cc
has_lane context Reserve operands (says.Lane lane) is fine = let e = keyword_is context Reserve operands (says.Lane lane) is in cc
has_lane context Put operands (says.Lane lane) is fine = let e = keyword_is context Put operands (says.Lane lane) is in cc
has_lane context Defer operands (says.Lane lane) is fine = let e = keyword_is context Defer operands (says.Lane lane) is in cc
has_lane context Set operands (says.Lane lane) is fine = let e = keyword_is context Set operands (says.Lane lane) is in cc
has_lane context Publish operands (says.Lane lane) is fine = let e = keyword_is context Publish operands (says.Lane lane) is in cc
has_lane context Cancel operands (says.Lane lane) is fine = let e = keyword_is context Cancel operands (says.Lane lane) is in cc
has_lane context Commit operands (says.Lane lane) is fine = let e = keyword_is context Commit operands (says.Lane lane) is in cc

-- ---- the ids of a statement

abbrev pub ids_said : Statement → List ScriptId
ids_said (says.Lane lane) = []
ids_said (says.Operation operation) = ids_of operation

module _ (context : Context) (P : ScriptId → Type 0) (named : (word : List ℕ) (id : ScriptId) → id_of context word ≡ Some id → P id) where
  one_id : (id : ScriptId) → P id → All P (id ∷ [])
  one_id id is = All-cons P id [] is (All-nil P)

  want_named : (write : Bool) (word : List ℕ) (id : Option ScriptId) (want : ScriptWant) → id_of context word ≡ id → option_map (wanted write) id ≡ Some want → P want.id
  want_named write word None want is wants = cc
  want_named write word (Some id) want is wants = subst (λ (w : ScriptWant). P w.id) (same_some wants) (named word id is)

  word_named : (b : Bool) (word : List ℕ) (want : ScriptWant) → cond b (option_map (wanted false) (id_of context (drop 2 word))) (option_map (wanted true) (id_of context word)) ≡ Some want → P want.id
  word_named true word want is = want_named false (drop 2 word) (id_of context (drop 2 word)) want refl is
  word_named false word want is = want_named true word (id_of context word) want refl is

  want_first : (want : Option ScriptWant) (others : List ScriptWant) → ((w : ScriptWant) → want ≡ Some w → P w.id) → All P (map (λ (w : ScriptWant). w.id) others) → All P (map (λ (w : ScriptWant). w.id) (cons_option want others))
  want_first None others is all = all
  want_first (Some want) others is all = All-cons P want.id (map (λ (w : ScriptWant). w.id) others) (is want refl) all

  wants_named : (wants : List (List ℕ)) → All P (map (λ (w : ScriptWant). w.id) (filter_map (want_of context) wants))
  wants_named [] = All-nil P
  wants_named (word ∷ wants) = want_first (want_of context word) (filter_map (want_of context) wants) (λ want is. word_named (starts_with nat_eq word (codes "r:")) word want is) (wants_named wants)

  said_ids : (statement other : Statement) → Some statement ≡ Some other → All P (ids_said statement) → All P (ids_said other)
  said_ids statement other is all = subst (λ s. All P (ids_said s)) (same_some is) all

  lane_ids : (number : Option ℕ) (statement : Statement) → option_map says.Lane number ≡ Some statement → All P (ids_said statement)
  lane_ids None statement is = cc
  lane_ids (Some lane) statement is = said_ids (says.Lane lane) statement is (All-nil P)

  -- what holds of each id that a word names holds of those of a statement
  statement_ids : (keyword : Keyword) (operands : List (List ℕ)) (statement : Statement) → statement_of context keyword operands ≡ Some statement → All P (ids_said statement)
  statement_ids Lane [] statement is = cc
  statement_ids Lane (lane ∷ []) statement is = lane_ids (number_of lane) statement is
  statement_ids Lane (lane ∷ x ∷ more) statement is = cc
  statement_ids Begin wants statement is = said_ids (says.Operation (op.Begin (filter_map (want_of context) wants))) statement is (wants_named wants)
  statement_ids Add [] statement is = cc
  statement_ids Add (id ∷ []) statement is = cc
  statement_ids Add (id ∷ off ∷ []) statement is = cc
  statement_ids Add (id ∷ off ∷ len ∷ []) statement is =
      let a = found (id_of context id) _ statement is in
      let b = found (number_of off) _ statement a.1 in
      let c = found (number_of len) _ statement b.1 in
      said_ids (says.Operation (op.Add a.0 b.0 c.0)) statement c.1 (one_id a.0 (named id a.0 a.2))
  statement_ids Add (id ∷ off ∷ len ∷ x ∷ more) statement is = cc
  statement_ids Write [] statement is = cc
  statement_ids Write (id ∷ []) statement is = cc
  statement_ids Write (id ∷ off ∷ []) statement is = cc
  statement_ids Write (id ∷ off ∷ hex ∷ []) statement is =
      let a = found (id_of context id) _ statement is in
      let b = found (number_of off) _ statement a.1 in
      let c = found (bytes_of hex) _ statement b.1 in
      said_ids (says.Operation (op.Write a.0 b.0 c.0)) statement c.1 (one_id a.0 (named id a.0 a.2))
  statement_ids Write (id ∷ off ∷ hex ∷ x ∷ more) statement is = cc
  statement_ids Read [] statement is = cc
  statement_ids Read (id ∷ []) statement is = cc
  statement_ids Read (id ∷ off ∷ []) statement is = cc
  statement_ids Read (id ∷ off ∷ len ∷ []) statement is =
      let a = found (id_of context id) _ statement is in
      let b = found (number_of off) _ statement a.1 in
      let c = found (size_of len) _ statement b.1 in
      said_ids (says.Operation (op.Read a.0 b.0 c.0)) statement c.1 (one_id a.0 (named id a.0 a.2))
  statement_ids Read (id ∷ off ∷ len ∷ x ∷ more) statement is = cc
  statement_ids Alloc [] statement is = cc
  statement_ids Alloc (letter ∷ []) statement is = cc
  statement_ids Alloc (letter ∷ size ∷ []) statement is = cc
  statement_ids Alloc (letter ∷ size ∷ kind ∷ []) statement is =
      let a = found (letter_of letter) _ statement is in
      let b = found (number_of size) _ statement a.1 in
      let c = found (number_of kind) _ statement b.1 in
      said_ids (says.Operation (op.Alloc a.0 b.0 c.0)) statement c.1 (All-nil P)
  statement_ids Alloc (letter ∷ size ∷ kind ∷ x ∷ more) statement is = cc
  statement_ids Free [] statement is = cc
  statement_ids Free (id ∷ []) statement is =
      let a = found (id_of context id) _ statement is in
      said_ids (says.Operation (op.Free a.0)) statement a.1 (one_id a.0 (named id a.0 a.2))
  statement_ids Free (id ∷ x ∷ more) statement is = cc
  statement_ids Reserve [] statement is = cc
  statement_ids Reserve (letter ∷ []) statement is = cc
  statement_ids Reserve (letter ∷ size ∷ []) statement is = cc
  statement_ids Reserve (letter ∷ size ∷ kind ∷ []) statement is =
      let a = found (letter_of letter) _ statement is in
      let b = found (number_of size) _ statement a.1 in
      let c = found (number_of kind) _ statement b.1 in
      said_ids (says.Operation (op.Reserve a.0 b.0 c.0)) statement c.1 (All-nil P)
  statement_ids Reserve (letter ∷ size ∷ kind ∷ x ∷ more) statement is = cc
  statement_ids Put [] statement is = cc
  statement_ids Put (id ∷ []) statement is = cc
  statement_ids Put (id ∷ off ∷ []) statement is = cc
  statement_ids Put (id ∷ off ∷ hex ∷ []) statement is =
      let a = found (id_of context id) _ statement is in
      let b = found (number_of off) _ statement a.1 in
      let c = found (bytes_of hex) _ statement b.1 in
      said_ids (says.Operation (op.WriteReserved a.0 b.0 c.0)) statement c.1 (one_id a.0 (named id a.0 a.2))
  statement_ids Put (id ∷ off ∷ hex ∷ x ∷ more) statement is = cc
  statement_ids Defer [] statement is = cc
  statement_ids Defer (id ∷ []) statement is =
      let a = found (id_of context id) _ statement is in
      said_ids (says.Operation (op.DeferFree a.0)) statement a.1 (one_id a.0 (named id a.0 a.2))
  statement_ids Defer (id ∷ x ∷ more) statement is = cc
  statement_ids Set [] statement is = cc
  statement_ids Set (id ∷ []) statement is = cc
  statement_ids Set (id ∷ off ∷ []) statement is = cc
  statement_ids Set (id ∷ off ∷ value ∷ []) statement is =
      let a = found (id_of context id) _ statement is in
      let b = found (number_of off) _ statement a.1 in
      let c = found (number_of value) _ statement b.1 in
      said_ids (says.Operation (op.Set a.0 b.0 c.0)) statement c.1 (one_id a.0 (named id a.0 a.2))
  statement_ids Set (id ∷ off ∷ value ∷ x ∷ more) statement is = cc
  statement_ids Publish [] statement is = said_ids (says.Operation op.Publish) statement is (All-nil P)
  statement_ids Publish (x ∷ more) statement is = cc
  statement_ids Cancel [] statement is = said_ids (says.Operation op.Cancel) statement is (All-nil P)
  statement_ids Cancel (x ∷ more) statement is = cc
  statement_ids Commit [] statement is = said_ids (says.Operation op.Commit) statement is (All-nil P)
  statement_ids Commit (x ∷ more) statement is = cc

  keyword_ids : (keyword : Option Keyword) (operands : List (List ℕ)) (statement : Statement) → option_and_then (λ k. statement_of context k operands) keyword ≡ Some statement → All P (ids_said statement)
  keyword_ids None operands statement is = cc
  keyword_ids (Some keyword) operands statement is = statement_ids keyword operands statement is

  -- those of a line's words
  pub words_ids : (line : List (List ℕ)) (statement : Statement) → said context line ≡ Some statement → All P (ids_said statement)
  words_ids [] statement is = cc
  words_ids (word ∷ operands) statement is = keyword_ids (keyword_of word) operands statement is
