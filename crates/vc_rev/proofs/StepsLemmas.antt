-- Steps from an object to another.
use Rattle.std.proofs.Common.{◌≡◌, ◌≢◌, ℕ, zero, suc, ◌+◌, ◌-◌, ◌<◌, inl, inr, length, drop, map, Ok, Err, List, [], ◌∷◌, Option, Some, Contains, option_map, option_and_then, get_or, refl, sym, ap, subst, ◌∙◌, arith}
use Rattle.vc_object_map.specs.Graph.{itself}
use Rattle.vc_object_map.proofs.WalkLemmas.{Walks}
use Rattle.vc_object.specs.Decoding.{StoredObject}
use Rattle.vc_object.specs.ObjectMap.{ObjectMap}
use Rattle.vc_object.specs.declared.id.ObjectId.{ObjectId}
use Rattle.vc_rev.specs.Meaning.{Answer, target_in, tag_links, PicksFrom, FirstParents, AncestorGives, StepGives, StepsGive, EntryGives, child_at}
use Rattle.vc_rev.specs.Answer.{IsTold}
use Rattle.vc_rev.specs.Asking.{AncestorAsks, ChildAsks, EntryAsks, FirstParentsAsk, PeelingAsks, StepAsks, StepsAsk}
use Rattle.vc_rev.specs.Question.{Question}
use denote.Ref.{Bor}
use Rattle.vc_object.specs.declared.mode.Mode.{Mode}
use Rattle.vc_rev.specs.Source.{Source}
use Rattle.vc_rev.specs.declared.refusal.SourceFault.{SourceFault}
use Rattle.vc_rev.specs.declared.refusal.RevFault.{RevFault}
use Rattle.vc_expression.specs.declared.token.StepToken.{StepToken}
use Rattle.vc_rev.proofs.AnswerLemmas.{told_same}
use Rattle.std.proofs.lemmas.List.{drop_more}
use Rattle.vc_rev.specs.declared.refusal.Refusal.{Refusal}
use Rattle.vc_expression.specs.declared.token.Step.TheVariants as steps

-- a walk begins at its one root
pub Walks-one : (links : ObjectId → Option (List ObjectId)) (id : ObjectId) (keys : List ObjectId) → keys ≡ id ∷ [] → Walks links (id ∷ []) keys 0
Walks-one links id keys e = record {
  reached = λ y h. record { root = y; is_root = subst (λ l. Contains l y) e h; reaches = itself };
  rooted = λ y h. subst (λ l. Contains l y) (sym e) h;
  within = omega arith;
  followed = λ k d below. absurd (omega arith);
}

-- a tag links to what it names
pub tag_links-tag : (objects : ObjectMap) (x y : ObjectId) (o : StoredObject) → objects x ≡ Some o → target_in o ≡ Some y → tag_links objects x ≡ Some (y ∷ [])
tag_links-tag objects x y o e t = ap (λ (f : Option StoredObject). option_map (λ z. z ∷ []) (option_and_then target_in f)) e ∙ ap (option_map (λ z. z ∷ [])) t

less_one : (n : ℕ) → suc n - 1 ≡ n
less_one n = omega arith

-- one more first parent
pub parents_more : (s : Source) (n : ℕ) (x y : ObjectId) (answer : Answer) → n ≢ 0 → PicksFrom s (steps.Parent 1) x (Ok y) → FirstParents s (n - 1) y answer → FirstParents s n x answer
parents_more s zero x y answer some p h = absurd (some refl)
parents_more s (suc n) x y answer some p h = (Ok y, p, subst (λ (k : ℕ). FirstParents s k y answer) (less_one n) h)

pub parents_end : (s : Source) (n : ℕ) (x : ObjectId) (e : Refusal) → n ≢ 0 → PicksFrom s (steps.Parent 1) x (Err e) → FirstParents s n x (Err e)
parents_end s zero x e some p = absurd (some refl)
parents_end s (suc n) x e some p = (Err e, p, refl)

pub parents_none : (s : Source) (n : ℕ) (x : ObjectId) → n ≡ 0 → FirstParents s n x (Ok x)
parents_none s zero x e = refl
parents_none s (suc n) x e = absurd (omega arith)

pub ancestor_some : (s : Source) (n : ℕ) (x : ObjectId) (answer : Answer) → n ≢ 0 → FirstParents s n x answer → AncestorGives s n x answer
ancestor_some s zero x answer some h = absurd (some refl)
ancestor_some s (suc n) x answer some h = h

-- what a step tells is told of all steps
pub steps_told : (s : Source) (Blames : Question → SourceFault → Type 0) (xs : List StepToken) (i : ℕ) (d : StepToken) (x start : ObjectId) (e : RevFault) → i < length xs → ((question : Question) → StepsAsk s (map (λ (t : StepToken). t.step) (drop i xs)) x question → StepsAsk s (map (λ (t : StepToken). t.step) xs) start question)
    → ((answer : Answer) → StepsGive s (map (λ (t : StepToken). t.step) (drop i xs)) x answer → StepsGive s (map (λ (t : StepToken). t.step) xs) start answer) → IsTold Blames (StepAsks s (get_or xs i d).step x) (StepGives s (get_or xs i d).step x) e → IsTold Blames (StepsAsk s (map (λ (t : StepToken). t.step) xs) start) (StepsGive s (map (λ (t : StepToken). t.step) xs) start) e
steps_told s Blames xs i d x start e lt asked go t =
    told_same Blames (StepAsks s (get_or xs i d).step x) (StepsAsk s (map (λ (u : StepToken). u.step) xs) start) (StepGives s (get_or xs i d).step x) (StepsGive s (map (λ (u : StepToken). u.step) xs) start) e
    (λ question h. asked question (subst (λ (ts : List StepToken). StepsAsk s (map (λ (u : StepToken). u.step) ts) x question) (sym (drop_more xs i d lt)) (inl h)))
    (λ r h. go (Err r) (subst (λ (ts : List StepToken). StepsGive s (map (λ (u : StepToken). u.step) ts) x (Err r)) (sym (drop_more xs i d lt)) (Err r, h, refl))) t

-- what a component tells is told of all components
pub entries_told : (s : Source) (Blames : Question → SourceFault → Type 0) (xs : List (Bor (List ℕ))) (i : ℕ) (d : Bor (List ℕ)) (mode : Mode) (x : ObjectId) (start : Mode) (tree : ObjectId) (e : RevFault) → i < length xs → ((question : Question) → EntryAsks s (map (λ (t : Bor (List ℕ)). t.now) (drop i xs)) mode x question → EntryAsks s (map (λ (t : Bor (List ℕ)). t.now) xs) start tree question)
    → ((answer : Answer) → EntryGives s (map (λ (t : Bor (List ℕ)). t.now) (drop i xs)) mode x answer → EntryGives s (map (λ (t : Bor (List ℕ)). t.now) xs) start tree answer) → IsTold Blames (ChildAsks mode x) (λ a. a ≡ child_at s (get_or xs i d).now mode x) e → IsTold Blames (EntryAsks s (map (λ (t : Bor (List ℕ)). t.now) xs) start tree) (EntryGives s (map (λ (t : Bor (List ℕ)). t.now) xs) start tree) e
entries_told s Blames xs i d mode x start tree e lt asked go t =
    told_same Blames (ChildAsks mode x) (EntryAsks s (map (λ (u : Bor (List ℕ)). u.now) xs) start tree) (λ a. a ≡ child_at s (get_or xs i d).now mode x) (EntryGives s (map (λ (u : Bor (List ℕ)). u.now) xs) start tree) e
    (λ question h. asked question (subst (λ (ts : List (Bor (List ℕ))). EntryAsks s (map (λ (u : Bor (List ℕ)). u.now) ts) mode x question) (sym (drop_more xs i d lt)) (inl h)))
    (λ r h. go (Err r) (subst (λ (ts : List (Bor (List ℕ))). EntryGives s (map (λ (u : Bor (List ℕ)). u.now) ts) mode x (Err r)) (sym (drop_more xs i d lt)) (Err r, h, refl))) t

-- one more first parent is asked for
pub parents_asked : (s : Source) (n : ℕ) (x y : ObjectId) (question : Question) → n ≢ 0 → PicksFrom s (steps.Parent 1) x (Ok y) → FirstParentsAsk s (n - 1) y question → FirstParentsAsk s n x question
parents_asked s zero x y question some p h = absurd (some refl)
parents_asked s (suc n) x y question some p h = inr (y, p, subst (λ (k : ℕ). FirstParentsAsk s k y question) (less_one n) h)

pub parents_asked-first : (s : Source) (n : ℕ) (x : ObjectId) (question : Question) → n ≢ 0 → PeelingAsks s x question → FirstParentsAsk s n x question
parents_asked-first s zero x question some h = absurd (some refl)
parents_asked-first s (suc n) x question some h = inl h

pub ancestor_asked : (s : Source) (n : ℕ) (x : ObjectId) (question : Question) → n ≢ 0 → FirstParentsAsk s n x question → AncestorAsks s n x question
ancestor_asked s zero x question some h = absurd (some refl)
ancestor_asked s (suc n) x question some h = h
