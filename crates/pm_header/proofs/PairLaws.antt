-- A pair spells one header, and a page with a header has no fault.
use Rattle.std.proofs.Common.{◌≡◌, ◌≢◌, ℕ, ◌<◌, ◌≤◌, List, length, drop, get_or, Result, Ok, Err, IfOk, IfErr, refl, sym, ◌∙◌, ap, subst, arith}
use Rattle.pm_words.specs.Words.{bytes_of}
use Rattle.pm_header.specs.Name.{IsName, name_bytes}
use Rattle.pm_header.specs.Spelling.{name_line, pair}
use Rattle.pm_header.specs.Pairs.{main_pair, copy_pair, version_of, IsGood, IsPairOf, IsHeaderIn}
use Rattle.pm_header.specs.Faults.{IsFault}
use Rattle.pm_header.specs.declared.header.Header.{Header}
use Rattle.pm_header.specs.declared.fault.HeaderFault.{HeaderFault}
use Rattle.pm_header.specs.declared.fault.HeaderFault.TheVariants.{NotPool, HeaderMain, HeaderCopy, HeaderBoth, HeaderDiffer, Version}
use Rattle.pm_header.proofs.NameLines.{front_of_name, bytes_of_name, name_before, zero_behind, length-name_bytes}

name_unique : (a b : List ℕ) → IsName a → IsName b → name_bytes a ≡ name_bytes b → a ≡ b
name_unique a b a_is b_is same =
    let long : length (name_bytes a) ≡ 64 = length-name_bytes a a_is in
    let short : length a ≤ 63 = a_is.short in
    let before : (k : ℕ) → k < length a → get_or (name_bytes a) k 0 ≢ 0 = λ k h. name_before a k a_is h in
    sym (front_of_name a (name_bytes a) (length a) a_is refl (omega arith) before (λ h. zero_behind a a_is))
    ∙ front_of_name b (name_bytes a) (length a) b_is same (omega arith) before (λ h. zero_behind a a_is)

good_pair : (h : Header) → IsName h.name → IsGood (pair h)
unfolding pair
good_pair h is = record { has_magic = refl; name_sum = refl; header_sum = refl; name_form = (h.name, record { is_name = is; spelled = refl }) }

-- a pair that spells a header is good
pub good_from_header : (words : List ℕ) (h : Header) → IsPairOf words h → IsGood words
good_from_header words h is = subst IsGood (sym is.spelled) (good_pair h is.is_name)

-- the pair's version is the header's
pub version_spelled : (h : Header) → version_of (pair h) ≡ h.version
unfolding pair
version_spelled h = refl

same_header : (h k : Header) → IsName h.name → IsName k.name → pair h ≡ pair k → h ≡ k
unfolding pair
same_header h k h_is k_is same =
    let lines : name_line h.name ≡ name_line k.name = ap (drop 8) same in
    let names : h.name ≡ k.name = name_unique h.name k.name h_is k_is (sym (bytes_of_name h.name h_is) ∙ ap bytes_of lines ∙ bytes_of_name k.name k_is) in
    (λ i. record {
      version = ap (λ (ws : List ℕ). get_or ws 1 0) same i;
      id = ap (λ (ws : List ℕ). get_or ws 2 0) same i;
      lanes = ap (λ (ws : List ℕ). get_or ws 3 0) same i;
      zones = ap (λ (ws : List ℕ). get_or ws 4 0) same i;
      bytes = ap (λ (ws : List ℕ). get_or ws 5 0) same i;
      name = names i;
    })

-- a page with a header has no fault
pub no_fault : (page : List ℕ) (h : Header) (fault : HeaderFault) → IsHeaderIn page h → IsFault page fault → ⊥
no_fault page h NotPool is fault = fault.0 (good_from_header (main_pair page) h is.main).has_magic
no_fault page h HeaderMain is fault = fault.0 (good_from_header (main_pair page) h is.main)
no_fault page h HeaderCopy is fault = fault.1 (good_from_header (copy_pair page) h is.copy)
no_fault page h HeaderBoth is fault = fault.0 (good_from_header (main_pair page) h is.main)
no_fault page h HeaderDiffer is fault = fault.2 (is.main.spelled ∙ sym is.copy.spelled)
no_fault page h (Version v) is fault = fault.3 (sym fault.2 ∙ ap version_of is.main.spelled ∙ version_spelled h ∙ is.version)

-- what was read is the one header, and the fault that was told is the one fault
pub again_from_read : (page : List ℕ) (r : Result Header HeaderFault) → IfOk r (IsHeaderIn page) → IfErr r (IsFault page) → (h : Header) → IsHeaderIn page h → r ≡ Ok h
again_from_read page (Ok k) read fault h is =
    ap Ok (same_header k h read.main.is_name is.main.is_name (sym read.main.spelled ∙ is.main.spelled))
again_from_read page (Err f) read fault h is = absurd (no_fault page h f is fault)

pub exact_from_read : (page : List ℕ) (r : Result Header HeaderFault) → IfOk r (IsHeaderIn page) → IfErr r (IsFault page)
    → ((f g : HeaderFault) → IsFault page f → IsFault page g → f ≡ g) → (f : HeaderFault) → IsFault page f → r ≡ Err f
exact_from_read page (Ok k) read fault one f is = absurd (no_fault page k f read is)
exact_from_read page (Err g) read fault one f is = ap Err (one g f fault is)
