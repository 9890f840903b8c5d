-- Reading the entries that bytes spell.
use Rattle.std.proofs.Common.{◌≡◌, ℕ, ◌<◌, Bool, true, false, cond, List, [], ◌∷◌, ◌++◌, length, take, drop, Option, Some, None, refl, ap, sym, ◌∙◌, subst, arith, append_assoc, length-append, ◌⊎◌, inl, inr, ⊎_elim}
use Rattle.std.specs.Prelude.{nat_lt, IfSome}
use Rattle.std.specs.List.{AllByRecursion}
use Rattle.std.specs.Str.{bytes_eq}
use Rattle.std.proofs.lemmas.Slice.Eq.{bytes_eq-Decides}
use Rattle.std.proofs.lemmas.Bool.Decides.{nat_tests}
use Rattle.std.proofs.lemmas.List.{take-append-drop, length-take-le, take_at, drop_at}
use Rattle.vc_object.specs.Bytes.{Without, cut}
use Rattle.vc_object.specs.Tree.{Entry, IsEntry, IsTree, mode_text, entry_bytes, spelling}
use Rattle.vc_object.specs.Entries.{mode_of, entry_at, entries_of}
use Rattle.vc_object.specs.declared.mode.Mode.{Mode}
use Rattle.vc_object.specs.declared.mode.Mode.TheVariants as modes
use Rattle.vc_object.proofs.Items.{bind_some, no_items, one_item}
use Rattle.vc_object.proofs.Texts.{cut_some, cut_found, Without-test}

-- which way a test went
pub chosen : {A : Type 0} (b : Bool) (x y z : A) → cond b x y ≡ z → ((b ≡ true) × (x ≡ z)) ⊎ ((b ≡ false) × (y ≡ z))
chosen true x y z e = inl (refl, e)
chosen false x y z e = inr (refl, e)

mode_if : (text other : List ℕ) (m n : Mode) (o : Option Mode) → other ≡ mode_text n → (o ≡ Some m → text ≡ mode_text m) → cond (bytes_eq text other) (Some n) o ≡ Some m → text ≡ mode_text m
mode_if text other m n o is next e = ⊎_elim
    (λ h. let same : n ≡ m = let s = h.1 in cc s in (bytes_eq-Decides text other).0 h.0 ∙ is ∙ ap mode_text same)
    (λ h. next h.1)
    (chosen _ _ _ _ e)

pub mode_some : (text : List ℕ) (m : Mode) → mode_of text ≡ Some m → text ≡ mode_text m
mode_some text m =
    mode_if text _ m modes.Tree _ refl (
    mode_if text _ m modes.File _ refl (
    mode_if text _ m modes.SharedFile _ refl (
    mode_if text _ m modes.Executable _ refl (
    mode_if text _ m modes.Link _ refl (
    mode_if text _ m modes.Commit _ refl (λ e. absurd (cc e)))))))

pub mode_again : (m : Mode) → mode_of (mode_text m) ≡ Some m
mode_again modes.Tree = refl
mode_again modes.File = refl
mode_again modes.SharedFile = refl
mode_again modes.Executable = refl
mode_again modes.Link = refl
mode_again modes.Commit = refl

pub mode_read : (text : List ℕ) (o : Option Mode) → o ≡ mode_of text → IfSome o (λ m. text ≡ mode_text m)
mode_read text None e = tt
mode_read text (Some m) e = mode_some text m (sym e)

pub mode_found : (text : List ℕ) (o : Option Mode) → o ≡ mode_of text → (m : Mode) → text ≡ mode_text m → o ≡ Some m
mode_found text o e m is = e ∙ ap mode_of is ∙ mode_again m

-- no mode has a space
pub mode_spaceless : (m : Mode) → Without 32 (mode_text m)
mode_spaceless modes.Tree = Without-test 32 (mode_text modes.Tree) refl
mode_spaceless modes.File = Without-test 32 (mode_text modes.File) refl
mode_spaceless modes.SharedFile = Without-test 32 (mode_text modes.SharedFile) refl
mode_spaceless modes.Executable = Without-test 32 (mode_text modes.Executable) refl
mode_spaceless modes.Link = Without-test 32 (mode_text modes.Link) refl
mode_spaceless modes.Commit = Without-test 32 (mode_text modes.Commit) refl

pub cond_none : {A : Type 0} (b : Bool) (x y : A) → cond b None (Some x) ≡ Some y → (b ≡ false) × (x ≡ y)
cond_none true x y e = absurd (cc e)
cond_none false x y e = (refl, cc e)

-- the parts of an entry, and what follows it
pub regroup : (m n i r : List ℕ) → m ++ 32 ∷ (n ++ 0 ∷ (i ++ r)) ≡ (m ++ 32 ∷ n ++ 0 ∷ i) ++ r
regroup m n i r = simp append_assoc

-- what the entry at the front was
pub record Spelled (bytes : List ℕ) (e : Entry) (rest : List ℕ) : Type 0 where
  pub is : bytes ≡ entry_bytes e ++ rest
  pub name : Without 0 e.name
  pub id : length e.id.0 ≡ 20

spelled_parts : (bytes text after name more : List ℕ) (m : Mode) → bytes ≡ text ++ 32 ∷ after → text ≡ mode_text m → Without 0 name → after ≡ name ++ 0 ∷ more → nat_lt (length more) 20 ≡ false → Spelled bytes (record { mode = m; name = name; id = record { 0 = take 20 more } }) (drop 20 more)
spelled_parts bytes text after name more m a b w c d = record {
  is =
      a ∙ ap (λ t. t ++ 32 ∷ after) b ∙ ap (λ t. mode_text m ++ 32 ∷ t) (c ∙ ap (λ t. name ++ 0 ∷ t) (sym (take-append-drop 20 more)))
      ∙ regroup (mode_text m) name (take 20 more) (drop 20 more);
  name = w;
  id = length-take-le 20 more (grind (arith, nat_tests));
}

pub entry_spelled : (bytes : List ℕ) (e : Entry) (rest : List ℕ) → entry_at bytes ≡ Some (e, rest) → Spelled bytes e rest
unfolding entry_at
entry_spelled bytes e rest is =
    let a = bind_some (cut 32 bytes) _ _ is in
    let b = bind_some (mode_of a.0.0) _ _ a.2 in
    let c = bind_some (cut 0 a.0.1) _ _ b.2 in
    let d = cond_none _ _ _ c.2 in
    let x = cut_some 32 bytes a.0.0 a.0.1 a.1 in
    let z = cut_some 0 a.0.1 c.0.0 c.0.1 c.1 in
    subst (λ (p : Entry × List ℕ). Spelled bytes p.0 p.1) d.1 (spelled_parts bytes a.0.0 a.0.1 c.0.0 c.0.1 b.0 x.1 (mode_some a.0.0 b.0 b.1) z.0 z.1 d.0)

-- an entry that is spelled is read again
pub entry_again : (e : Entry) (rest : List ℕ) → Without 0 e.name → length e.id.0 ≡ 20 → entry_at (entry_bytes e ++ rest) ≡ Some (e, rest)
unfolding entry_at
entry_again e rest name id =
    let m = mode_text e.mode in
    let parts : entry_bytes e ++ rest ≡ m ++ 32 ∷ (e.name ++ 0 ∷ (e.id.0 ++ rest)) = sym (regroup m e.name e.id.0 rest) in
    let long : nat_lt (length (e.id.0 ++ rest)) 20 ≡ false = let l = length-append e.id.0 rest in grind (arith, nat_tests) in
    rw (parts, cut_found 32 m (e.name ++ 0 ∷ (e.id.0 ++ rest)) (mode_spaceless e.mode), mode_again e.mode, cut_found 0 e.name (e.id.0 ++ rest) name, long, take_at e.id.0 rest 20 id, drop_at e.id.0 rest 20 id) refl

-- an entry takes a byte at least
pub entry_takes : (bytes : List ℕ) (e : Entry) (rest : List ℕ) → entry_at bytes ≡ Some (e, rest) → length rest < length bytes
entry_takes bytes e rest is =
    let s = entry_spelled bytes e rest is in
    omega (arith, ap length s.is, length-append (entry_bytes e) rest, length-append (mode_text e.mode ++ 32 ∷ e.name) (0 ∷ e.id.0))

pub none_left : (bytes : List ℕ) → entry_at bytes ≡ None → entries_of bytes ≡ []
none_left bytes e = no_items entry_at bytes e

pub one_left : (bytes : List ℕ) (e : Entry) (rest : List ℕ) → entry_at bytes ≡ Some (e, rest) → entries_of bytes ≡ e ∷ entries_of rest
one_left bytes e rest is = one_item entry_at entry_takes bytes e rest is

nothing : entry_at [] ≡ None
unfolding entry_at
nothing = refl

-- what is spelled is read
pub entries_again : (es : List Entry) → AllByRecursion IsEntry es → entries_of (spelling es) ≡ es
entries_again [] l = none_left [] nothing
entries_again (e ∷ es) l = one_left _ e (spelling es) (entry_again e (spelling es) l.0.name.no_nul l.0.id) ∙ ap (λ t. e ∷ t) (entries_again es l.1)

pub read_again : (es : List Entry) (bytes : List ℕ) → IsTree es → bytes ≡ spelling es → entries_of bytes ≡ es
read_again es bytes t e = ap entries_of e ∙ entries_again es t.legal
