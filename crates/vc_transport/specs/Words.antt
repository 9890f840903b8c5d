-- What a word of a push asks for.
use Rattle.std.specs.Prelude.{◌≡◌, ◌≢◌, ℕ, List, [], None}
use Rattle.std.specs.Str.Pattern.{RFindsChar, SplitsAroundMatch}
use Rattle.vc_transport.specs.declared.words.ItemWords.{ItemWords}
use Rattle.vc_transport.specs.declared.words.ItemWords.TheVariants.{Branch, Delete, Set}

-- the word is cut at its last colon (58)
abbrev pub IsCut : List ℕ → List ℕ → List ℕ → Type 0
IsCut word before behind = SplitsAroundMatch (RFindsChar 58) word before behind

-- a ref's name stands behind the last colon, and before it a revision, or nothing; without a colon the word is a branch
abbrev pub IsOfWord : List ℕ → ItemWords → Type 0
IsOfWord word (Branch name) = (name.now ≡ word) × RFindsChar 58 word None
IsOfWord word (Set revision name) = IsCut word revision.now name.now × (revision.now ≢ [])
IsOfWord word (Delete name) = IsCut word [] name.now
