-- What of a text went out: for what prints.
use Rattle.std.proofs.Common.{◌≡◌, ◌∙◌, ℕ, ◌-◌, List, [], ◌∷◌, ◌++◌, None, Some, Ok, Err, length, take, drop, sym, ap, refl, subst, append_assoc, append-nil, take-append-drop}
use Rattle.std.proofs.lemmas.List.{take_rest}
use Rattle.std.specs.Prelude.{OnErr, Option, Result}
use Rattle.std.specs.Io.KnownBytes.{Appends, Keeps}
use Rattle.std.proofs.KnownBytes.{Appends-nil, Appends-trans}
use Rattle.vc_cli.specs.Printed.{AppendsFront, AppendsUpTo}

-- before the first piece
pub none_appended : (old : Option (List ℕ)) (text : List ℕ) → AppendsUpTo old old text text
none_appended old text = ([], refl, Appends-nil old)

-- a piece more
pub appended_more : (old mid new : Option (List ℕ)) (text rest : List ℕ) (n : ℕ) → AppendsUpTo old mid text rest → Appends mid new (take n rest) → AppendsUpTo old new text (take (length rest - n) (drop n rest))
appended_more old mid new text rest n (done, split, before) piece =
    let more : text ≡ (done ++ take n rest) ++ take (length rest - n) (drop n rest) =
    split ∙ ap (λ l. done ++ l) (sym (take-append-drop n rest)) ∙ sym (append_assoc done (take n rest) (drop n rest)) ∙ ap (λ l. (done ++ take n rest) ++ l) (sym (take_rest rest n)) in
    (done ++ take n rest, more, Appends-trans old mid new done (take n rest) before piece)

Keeps-Appends : (a b c : Option (List ℕ)) (bs : List ℕ) → Appends a b bs → Keeps b c → Appends a c bs
Keeps-Appends None b c bs p q = tt
Keeps-Appends (Some x) None c bs p q = absurd p
Keeps-Appends (Some x) (Some y) None bs p q = absurd q
Keeps-Appends (Some x) (Some y) (Some z) bs p q = q ∙ p

-- where nothing more was written
pub appended_kept : (old mid new : Option (List ℕ)) (text rest : List ℕ) → AppendsUpTo old mid text rest → Keeps mid new → AppendsUpTo old new text rest
appended_kept old mid new text rest (done, split, before) kept = (done, split, Keeps-Appends old mid new done before kept)

-- the whole text is a front of it
pub front_whole : (old new : Option (List ℕ)) (text : List ℕ) → Appends old new text → AppendsFront old new text
front_whole old new text whole = ([], (text, sym (append-nil text), whole))

pub front_kept : (old mid new : Option (List ℕ)) (text : List ℕ) → Appends old mid text → Keeps mid new → AppendsFront old new text
front_kept old mid new text whole kept = front_whole old new text (Keeps-Appends old mid new text whole kept)

-- nothing is one, too
pub front_none : (old : Option (List ℕ)) (text : List ℕ) → AppendsFront old old text
front_none old text = (text, none_appended old text)

-- and of an empty text the only one
abbrev is_nil : List ℕ → Type 0
is_nil [] = Unit {0}
is_nil (x ∷ xs) = ⊥

no_front : (front rest : List ℕ) → [] ≡ front ++ rest → front ≡ []
no_front [] rest split = refl
no_front (x ∷ xs) rest split = absurd (subst is_nil split tt)

Appends-none : (old new : Option (List ℕ)) → Appends old new [] → Keeps old new
Appends-none None new told = tt
Appends-none (Some x) None told = absurd told
Appends-none (Some x) (Some y) told = told ∙ append-nil x

pub front_of_none : (old new : Option (List ℕ)) → AppendsFront old new [] → Keeps old new
front_of_none old new (rest, (front, split, told)) = Appends-none old new (subst (λ (l : List ℕ). Appends old new l) (no_front front rest split) told)

-- what holds outright holds of an error
pub on_err : {T E A : Type 0} (r : Result T E) → A → OnErr r A
on_err (Ok x) holds = tt
on_err (Err e) holds = holds

-- what follows from a fact of an error holds of it, too
pub OnErr-map : {T E A B : Type 0} (r : Result T E) → (A → B) → OnErr r A → OnErr r B
OnErr-map (Ok x) f h = tt
OnErr-map (Err e) f h = f h
