-- A body that is no tree's has one fault.
use Rattle.std.proofs.Common.{◌≡◌, ◌≢◌, ℕ, List, ◌∷◌, ◌++◌, refl, ap, sym, ◌∙◌, subst, append_assoc, ◌⊎◌, inl, inr, ⊎_elim, []}
use Rattle.std.specs.List.{AllByRecursion}
use Rattle.std.proofs.lemmas.List.{append-nil}
use Rattle.std.proofs.Common.{arith}
use Rattle.std.specs.Prelude.{IfOk}
use Rattle.std.proofs.Math.Logic.{∥∥₁_elim}
use Rattle.vc_object.specs.Header.{IsSize, number, header, HeaderFault}
use Rattle.vc_object.specs.Object.{IsObject, object_bytes}
use Rattle.vc_object.specs.ObjectFault as fault
use Rattle.vc_object.specs.ObjectFault.{GrammarFault, BodyFault, SizedFault, BytesFault}
use Rattle.vc_object.specs.declared.kind.Kind.{Kind}
use Rattle.vc_object.specs.declared.kind.Kind.TheVariants as kinds
use Rattle.vc_object.specs.declared.object.Object.{Object}
use Rattle.vc_object.proofs.Objects.{header_once, no_fault, no_grammar}
use Rattle.vc_object.specs.Tree.{Entry, IsName, IsEntry, IsTree, IsTreeBody, HasName, mode_text, entry_bytes, spelling}
use Rattle.vc_object.specs.TreeFault.{Named, AllBelow, ModeFault, NameFault, PlaceFault, EntryFault, of_mode, of_name, of_place, of_id, TreeFault}
use Rattle.vc_object.specs.declared.mode.Mode.{Mode}
use Rattle.vc_object.specs.declared.fault.ObjectFault.{ObjectFault}
use Rattle.vc_object.specs.declared.fault.ObjectFault.TheVariants.{BadHeader, BadMode, BadName, NotSorted, DuplicateName, Cut}
use Rattle.vc_object.proofs.Texts.{cut_once, no_cut}
use Rattle.vc_object.proofs.Reading.{mode_spaceless}
use Rattle.vc_object.proofs.Faults.{same_first, same_mode, no_entry, faulty}
use Rattle.std.specs.Prelude.{Result, Ok, Err, IsOk, IfErr, ◌↔◌}
use Rattle.vc_lemmas.proofs.Lists.{nil_right}

-- of two lists of entries before bytes, one begins the other
meet : (es gs : List Entry) (r s : List ℕ) → AllByRecursion IsEntry es → AllByRecursion IsEntry gs → spelling es ++ r ≡ spelling gs ++ s → ((hs : List Entry) × (gs ≡ es ++ hs) × (r ≡ spelling hs ++ s)) ⊎ ((hs : List Entry) × (es ≡ gs ++ hs) × (s ≡ spelling hs ++ r))
meet [] gs r s a b e = inl (gs, refl, e)
meet (x ∷ es) [] r s a b e = inr (x ∷ es, refl, sym e)
meet (x ∷ es) (g ∷ gs) r s a b e =
    let first = same_first x g (spelling es ++ r) (spelling gs ++ s) a.0 b.0 (sym (append_assoc (entry_bytes x) (spelling es) r) ∙ e ∙ append_assoc (entry_bytes g) (spelling gs) s) in
    ⊎_elim
    (λ h. inl (h.0, (λ i. sym first.0 i ∷ h.1 i), h.2))
    (λ h. inr (h.0, (λ i. first.0 i ∷ h.1 i), h.2))
    (meet es gs r s a.1 b.1 first.1)

no_mode : (rest r : List ℕ) (m : Mode) (e : ObjectFault) → rest ≡ mode_text m ++ 32 ∷ r → ModeFault rest e → ⊥
no_mode rest r m BadMode is f = f.4 m (cut_once 32 f.0 (mode_text m) f.1 r f.2 (mode_spaceless m) (sym f.3 ∙ is)).0
no_mode rest r m Cut is f = no_cut 32 rest (mode_text m) r f is
no_mode rest r m _ is f = f

no_name : (r q name : List ℕ) (e : ObjectFault) → r ≡ name ++ 0 ∷ q → IsName name → NameFault r e → ⊥
no_name r q name BadName is n f = f.4 (subst IsName (sym (cut_once 0 f.0 name f.1 q f.2 n.no_nul (sym f.3 ∙ is)).0) n)
no_name r q name Cut is n f = no_cut 0 r name q f is
no_name r q name _ is n f = f

two_modes : (rest : List ℕ) (e f : ObjectFault) → ModeFault rest e → ModeFault rest f → e ≡ f
two_modes rest BadMode BadMode a b = refl
two_modes rest BadMode Cut a b = absurd (no_cut 32 rest a.0 a.1 b a.3)
two_modes rest Cut BadMode a b = absurd (no_cut 32 rest b.0 b.1 a b.3)
two_modes rest Cut Cut a b = refl
two_modes rest BadMode _ a b = absurd b
two_modes rest Cut _ a b = absurd b
two_modes rest _ f a b = absurd a

two_names : (rest : List ℕ) (e f : ObjectFault) → NameFault rest e → NameFault rest f → e ≡ f
two_names rest BadName BadName a b = refl
two_names rest BadName Cut a b = absurd (no_cut 0 rest a.0 a.1 b a.3)
two_names rest Cut BadName a b = absurd (no_cut 0 rest b.0 b.1 a b.3)
two_names rest Cut Cut a b = refl
two_names rest BadName _ a b = absurd b
two_names rest Cut _ a b = absurd b
two_names rest _ f a b = absurd a

two_places : (es : List Entry) (m : Mode) (name : List ℕ) (e f : ObjectFault) → PlaceFault es m name e → PlaceFault es m name f → e ≡ f
two_places es m name DuplicateName DuplicateName a b = refl
two_places es m name DuplicateName NotSorted a b = absurd (b.0 a)
two_places es m name NotSorted DuplicateName a b = absurd (a.0 b)
two_places es m name NotSorted NotSorted a b = refl
two_places es m name DuplicateName _ a b = absurd b
two_places es m name NotSorted _ a b = absurd b
two_places es m name _ f a b = absurd a

no_place : (es : List Entry) (m : Mode) (name : List ℕ) (e : ObjectFault) → (HasName es name → ⊥) → AllBelow es m name → PlaceFault es m name e → ⊥
no_place es m name DuplicateName n a f = n f
no_place es m name NotSorted n a f = f.1 a
no_place es m name _ n a f = f

module _ (es : List Entry) (rest : List ℕ) where
  same_mode_at : (m n : Mode) (r s : List ℕ) → rest ≡ mode_text m ++ 32 ∷ r → rest ≡ mode_text n ++ 32 ∷ s → (m ≡ n) × (r ≡ s)
  same_mode_at m n r s a b = let c = cut_once 32 (mode_text m) (mode_text n) r s (mode_spaceless m) (mode_spaceless n) (sym a ∙ b) in (same_mode m n c.0, c.1)

  same_named : (m n : Mode) (x y r s : List ℕ) → Named rest m x r → Named rest n y s → (m ≡ n) × (x ≡ y) × (r ≡ s)
  same_named m n x y r s a b =
      let c = same_mode_at m n (x ++ 0 ∷ r) (y ++ 0 ∷ s) a.is b.is in
      let d = cut_once 0 x y r s a.legal.no_nul b.legal.no_nul c.1 in (c.0, d.0, d.1)

  name_named : (m n : Mode) (r y s : List ℕ) (e : ObjectFault) → rest ≡ mode_text m ++ 32 ∷ r → NameFault r e → Named rest n y s → ⊥
  name_named m n r y s e is f b = no_name r s y e (same_mode_at m n r (y ++ 0 ∷ s) is b.is).1 b.legal f

  moved : (m n : Mode) (x y r s : List ℕ) (e : ObjectFault) → Named rest m x r → Named rest n y s → PlaceFault es m x e → PlaceFault es n y e
  moved m n x y r s e a b f =
      let c = same_named m n x y r s a b in
      subst (λ (k : Mode). PlaceFault es k y e) c.0 (subst (λ (t : List ℕ). PlaceFault es m t e) c.1 f)

  one_entry : (e f : ObjectFault) → EntryFault es rest e → EntryFault es rest f → e ≡ f
  one_entry e f (of_mode a) (of_mode b) = two_modes rest e f a b
  one_entry e f (of_mode a) (of_name m r is b) = absurd (no_mode rest r m e is a)
  one_entry e f (of_mode a) (of_place m x r n b) = absurd (no_mode rest (x ++ 0 ∷ r) m e n.is a)
  one_entry e f (of_mode a) (of_id m x r n h l s c) = absurd (no_mode rest (x ++ 0 ∷ r) m e n.is a)
  one_entry e f (of_name m r is a) (of_mode b) = absurd (no_mode rest r m f is b)
  one_entry e f (of_name m r is a) (of_name k s at b) = two_names r e f a (subst (λ (t : List ℕ). NameFault t f) (sym (same_mode_at m k r s is at).1) b)
  one_entry e f (of_name m r is a) (of_place k y s n b) = absurd (name_named m k r y s e is a n)
  one_entry e f (of_name m r is a) (of_id k y s n h l t c) = absurd (name_named m k r y s e is a n)
  one_entry e f (of_place m x r n a) (of_mode b) = absurd (no_mode rest (x ++ 0 ∷ r) m f n.is b)
  one_entry e f (of_place m x r n a) (of_name k s at b) = absurd (name_named k m s x r f at b n)
  one_entry e f (of_place m x r n a) (of_place k y s o b) = two_places es k y e f (moved m k x y r s e n o a) b
  one_entry e f (of_place m x r n a) (of_id k y s o h l t c) = absurd (no_place es k y e h l (moved m k x y r s e n o a))
  one_entry e f (of_id m x r n h l t c) (of_mode b) = absurd (no_mode rest (x ++ 0 ∷ r) m f n.is b)
  one_entry e f (of_id m x r n h l t c) (of_name k s at b) = absurd (name_named k m s x r f at b n)
  one_entry e f (of_id m x r n h l t c) (of_place k y s o b) = absurd (no_place es m x f h l (moved k m y x s r f o n b))
  one_entry e f (of_id m x r n h l t c) (of_id k y s o i j u d) = c ∙ sym d

pub one_fault : (body : List ℕ) (e f : ObjectFault) → TreeFault body e → TreeFault body f → e ≡ f
one_fault body e f a b = ⊎_elim
    (λ h. ends h.0 a.before b.before a.rest b.rest e f a.some a.fault b.fault h.1 h.2 b.tree)
    (λ h. sym (ends h.0 b.before a.before b.rest a.rest f e b.some b.fault a.fault h.1 h.2 a.tree))
    (meet a.before b.before a.rest b.rest a.tree.legal b.tree.legal (sym a.is ∙ b.is))
  where
    ends : (hs es gs : List Entry) (r s : List ℕ) (x y : ObjectFault) → r ≢ [] → EntryFault es r x → EntryFault gs s y → gs ≡ es ++ hs → r ≡ spelling hs ++ s → IsTree gs → x ≡ y
    ends [] es gs r s x y some p q g is t = one_entry es r x y p (subst (λ (l : List Entry). EntryFault l r y) (g ∙ append-nil es) (subst (λ (z : List ℕ). EntryFault gs z y) (sym is) q))
    ends (h ∷ hs) es gs r s x y some p q g is t = absurd (no_entry es hs h r (spelling hs ++ s) x p (subst IsTree g t) (is ∙ append_assoc (entry_bytes h) (spelling hs) s))

pub only_law : (body : List ℕ) (r : Result (Unit {0}) ObjectFault) → (IsOk r ↔ IsTreeBody body) → IfErr r (TreeFault body) → (e : ObjectFault) → TreeFault body e → r ≡ Err e
only_law body (Ok u) exact err e f = absurd (faulty body e f (exact.0 refl))
only_law body (Err x) exact err e f = ap (λ y. Err y) (one_fault body x e err f)

header_or_body : (bytes : List ℕ) (k : Kind) (size body : List ℕ) (e : ObjectFault) → IsSize size → bytes ≡ header k size ++ body → HeaderFault bytes e → ⊥
header_or_body bytes k size body Cut s is f =
    let b = f.3 in
    let once = header_once k f.0 size f.1 (body ++ b.0) [] s f.2 (sym (append_assoc (header k size) body b.0) ∙ ap (λ t. t ++ b.0) (sym is) ∙ b.2 ∙ sym (append-nil (header f.0 f.1))) in
    b.1 (nil_right body b.0 once.2)
header_or_body bytes k size body BadHeader s is f = f k size s [] body (append-nil bytes ∙ is)
header_or_body bytes k size body _ s is f = f

two_headers : (bytes : List ℕ) (e f : ObjectFault) → HeaderFault bytes e → HeaderFault bytes f → e ≡ f
two_headers bytes BadHeader BadHeader a b = refl
two_headers bytes BadHeader Cut a b = absurd (a b.0 b.1 b.2 b.3.0 [] (b.3.2 ∙ sym (append-nil (header b.0 b.1))))
two_headers bytes Cut BadHeader a b = absurd (b a.0 a.1 a.2 a.3.0 [] (a.3.2 ∙ sym (append-nil (header a.0 a.1))))
two_headers bytes Cut Cut a b = refl
two_headers bytes BadHeader _ a b = absurd b
two_headers bytes Cut _ a b = absurd b
two_headers bytes _ f a b = absurd a

two_grammars : (k : Kind) (body : List ℕ) (e f : ObjectFault) → GrammarFault k body e → GrammarFault k body f → e ≡ f
two_grammars kinds.Blob body e f a b = absurd a
two_grammars kinds.Tree body e f a b = one_fault body e f a b
two_grammars kinds.Commit body e f a b = a.0 ∙ sym b.0
two_grammars kinds.Tag body e f a b = a.0 ∙ sym b.0

pub two_bodies : (k : Kind) (body : List ℕ) (e f : ObjectFault) → BodyFault k body e → BodyFault k body f → e ≡ f
two_bodies k body e f (fault.too_large l is) (fault.too_large m at) = is ∙ sym at
two_bodies k body e f (fault.too_large l is) (fault.no_grammar m g) = absurd (omega arith)
two_bodies k body e f (fault.no_grammar l g) (fault.too_large m at) = absurd (omega arith)
two_bodies k body e f (fault.no_grammar l g) (fault.no_grammar m h) = two_grammars k body e f g h

pub no_body_fault : (k : Kind) (body : List ℕ) (e : ObjectFault) → IsObject k body → BodyFault k body e → ⊥
no_body_fault k body e object (fault.too_large l is) = let s = object.size in omega arith
no_body_fault k body e object (fault.no_grammar l g) = no_grammar k body e g object.grammar

pub only_body_law : (k : Kind) (body : List ℕ) (r : Result Object ObjectFault) → (IsOk r ↔ IsObject k body) → IfErr r (BodyFault k body) → (e : ObjectFault) → BodyFault k body e → r ≡ Err e
only_body_law k body (Ok o) exact err e f = absurd (no_body_fault k body e (exact.0 refl) f)
only_body_law k body (Err x) exact err e f = ap (λ y. Err y) (two_bodies k body x e err f)

two_sizes : (k : Kind) (n : ℕ) (body : List ℕ) (e f : ObjectFault) → SizedFault k n body e → SizedFault k n body f → e ≡ f
two_sizes k n body e f (fault.too_large l is) (fault.too_large m at) = is ∙ sym at
two_sizes k n body e f (fault.too_large l is) (fault.cut a b at) = absurd (omega arith)
two_sizes k n body e f (fault.too_large l is) (fault.bad_size a b at) = absurd (omega arith)
two_sizes k n body e f (fault.too_large l is) (fault.no_grammar a b g) = absurd (omega arith)
two_sizes k n body e f (fault.cut l m is) (fault.too_large a at) = absurd (omega arith)
two_sizes k n body e f (fault.cut l m is) (fault.cut a b at) = is ∙ sym at
two_sizes k n body e f (fault.cut l m is) (fault.bad_size a b at) = absurd (omega arith)
two_sizes k n body e f (fault.cut l m is) (fault.no_grammar a b g) = absurd (omega arith)
two_sizes k n body e f (fault.bad_size l m is) (fault.too_large a at) = absurd (omega arith)
two_sizes k n body e f (fault.bad_size l m is) (fault.cut a b at) = absurd (omega arith)
two_sizes k n body e f (fault.bad_size l m is) (fault.bad_size a b at) = is ∙ sym at
two_sizes k n body e f (fault.bad_size l m is) (fault.no_grammar a b g) = absurd (omega arith)
two_sizes k n body e f (fault.no_grammar l m g) (fault.too_large a at) = absurd (omega arith)
two_sizes k n body e f (fault.no_grammar l m g) (fault.cut a b at) = absurd (omega arith)
two_sizes k n body e f (fault.no_grammar l m g) (fault.bad_size a b at) = absurd (omega arith)
two_sizes k n body e f (fault.no_grammar l m g) (fault.no_grammar a b h) = two_grammars k body e f g h

pub one_bytes_fault : (bytes : List ℕ) (e f : ObjectFault) → BytesFault bytes e → BytesFault bytes f → e ≡ f
one_bytes_fault bytes e f (fault.of_header a) (fault.of_header b) = two_headers bytes e f a b
one_bytes_fault bytes e f (fault.of_header a) (fault.of_body k size body s is b) = absurd (header_or_body bytes k size body e s is a)
one_bytes_fault bytes e f (fault.of_body k size body s is a) (fault.of_header b) = absurd (header_or_body bytes k size body f s is b)
one_bytes_fault bytes e f (fault.of_body k size body s is a) (fault.of_body j other rest t at b) =
    let once = header_once j k other size rest body t s (sym at ∙ is) in
    two_sizes k (number size) body e f a
    (subst (λ (i : Kind). SizedFault i (number size) body f) once.0 (subst (λ (z : List ℕ). SizedFault j (number z) body f) once.1 (subst (λ (z : List ℕ). SizedFault j (number other) z f) once.2 b)))

pub only_bytes_law : (bytes : List ℕ) (r : Result Object ObjectFault) → IfOk r (λ o. bytes ≡ object_bytes o.kind o.body.now) → IfErr r (BytesFault bytes) → (e : ObjectFault) → BytesFault bytes e → r ≡ Err e
only_bytes_law bytes (Ok o) ok err e f = absurd (∥∥₁_elim o.sound (λ x. absurd x) (λ i. no_fault o.kind o.body.now i bytes e ok f))
only_bytes_law bytes (Err x) ok err e f = ap (λ y. Err y) (one_bytes_fault bytes x e err f)
