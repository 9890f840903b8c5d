-- Words of a push, one after another.
use Rattle.std.proofs.Common.{◌≡◌, ℕ, ◌+◌, ◌<◌, List, [], ◌∷◌, ◌++◌, length, take, get_or, map, Ok, Err, ◌∙◌, ap, subst, sym, refl, inl, inr, zero, suc, arith}
use Rattle.std.proofs.lemmas.List.{map-append, take_more}
use denote.Ref.{Bor}
use Rattle.std.specs.Prelude.{Result, IfErr, IfOk}
use Rattle.vc_sending.specs.declared.item.PushItem.{PushItem}
use Rattle.vc_files.specs.FileMap.{FileMap}
use Rattle.vc_files.specs.declared.faults.Fault.TheVariants.{Memory}
use Rattle.vc_transport.specs.Words.{IsOfWord}
use Rattle.vc_transport.specs.declared.words.ItemWords.{ItemWords}
use Rattle.vc_transport.specs.declared.words.ItemWords.TheVariants.{Branch, Delete, Set}
use Rattle.vc_push_items.specs.PushWords.{AreItemsFor, IsItemFor, IsItemOf, IsOfItem, IsOfItemWord, IsOfItemWords}
use Rattle.vc_cli.specs.declared.failure.Failure.{Failure}
use Rattle.vc_cli.specs.declared.failure.Failure.TheVariants.{Fault}

-- one more word behind those that ask for items
items_next : (content : FileMap) (words : List (List ℕ)) (items : List PushItem) (word : List ℕ) (item : PushItem)
    → AreItemsFor content words items → IsItemFor content word item → AreItemsFor content (words ++ word ∷ []) (items ++ item ∷ [])
items_next content [] items word item are is = (item, [], is, refl, ap (λ (xs : List PushItem). xs ++ item ∷ []) are)
items_next content (w ∷ words) items word item (first, others, one, rest, split) is =
    (first, others ++ item ∷ [], one, items_next content words others word item rest is, ap (λ (xs : List PushItem). xs ++ item ∷ []) split)

-- the same of a slice's front
pub items_more : (content : FileMap) (words : List (Bor (List ℕ))) (i : ℕ) (d : Bor (List ℕ)) → i < length words
    → (items : List PushItem) (item : PushItem) (more : List PushItem)
    → AreItemsFor content (map (λ word. word.now) (take i words)) items → IsItemFor content (get_or words i d).now item → more ≡ items ++ item ∷ []
    → AreItemsFor content (map (λ word. word.now) (take (i + 1) words)) more
items_more content words i d lt items item more before is added =
    let now : Bor (List ℕ) → List ℕ = λ word. word.now in
    let front : map now (take (i + 1) words) ≡ map now (take i words) ++ (get_or words i d).now ∷ [] = ap (map now) (take_more words i d lt) ∙ map-append now (take i words) (get_or words i d ∷ []) in
    let last : AreItemsFor content (map now (take i words) ++ (get_or words i d).now ∷ []) (items ++ item ∷ []) = items_next content (map now (take i words)) items (get_or words i d).now item before is in
    subst (λ (texts : List (List ℕ)). AreItemsFor content texts more) (sym front) (subst (λ (xs : List PushItem). AreItemsFor content (map now (take i words) ++ (get_or words i d).now ∷ []) xs) (sym added) last)

-- the first word that is refused, behind those that ask for items
pub items_stop : (content : FileMap) (words : List (Bor (List ℕ))) (i : ℕ) (d : Bor (List ℕ)) → i < length words → (items : List PushItem) (e : Failure)
    → AreItemsFor content (map (λ word. word.now) (take i words)) items → IsOfItemWord content (get_or words i d).now e
    → IsOfItemWords content (map (λ word. word.now) words) e
items_stop content [] i d lt items e are of = let out : ⊥ = omega (arith, lt) in absurd out
items_stop content (w ∷ words) zero d lt items e are of = inl of
items_stop content (w ∷ words) (suc i) d lt items e (first, others, one, rest, split) of = inr (first, one, items_stop content words i d (let less : i < length words = omega (arith, lt) in less) others e rest of)

-- any word may be refused for want of memory
no_memory : (content : FileMap) (words : ItemWords) → IsOfItem content words (Fault Memory)
no_memory content (Branch branch) = inl refl
no_memory content (Set revision name) = inl refl
no_memory content (Delete name) = refl

-- the same where memory runs out behind an item
pub items_fault : (content : FileMap) (words : List (Bor (List ℕ))) (i : ℕ) (d : Bor (List ℕ)) → i < length words → (items : List PushItem) (item : PushItem)
    → AreItemsFor content (map (λ word. word.now) (take i words)) items → IsItemFor content (get_or words i d).now item
    → IsOfItemWords content (map (λ word. word.now) words) (Fault Memory)
items_fault content words i d lt items item are (cut, is, asks) = items_stop content words i d lt items (Fault Memory) are (cut, is, no_memory content cut)

-- what a word that is cut so asks for, or why it is refused
pub item_from : (content : FileMap) (word : List ℕ) (cut words : ItemWords) (r : Result PushItem Failure)
    → IsOfWord word cut → cut ≡ words → IfOk r (IsItemOf content words) → IfOk r (IsItemFor content word)
item_from content word cut words (Ok item) of is asks = (words, subst (IsOfWord word) is of, asks)
item_from content word cut words (Err e) of is asks = tt

pub refused_from : (content : FileMap) (word : List ℕ) (cut words : ItemWords) (r : Result PushItem Failure)
    → IsOfWord word cut → cut ≡ words → IfErr r (IsOfItem content words) → IfErr r (IsOfItemWord content word)
refused_from content word cut words (Ok item) of is told = tt
refused_from content word cut words (Err e) of is told = (words, subst (IsOfWord word) is of, told)
