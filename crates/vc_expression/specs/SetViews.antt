-- What a set is read as: its terms, and where their tokens stand.
use Rattle.std.specs.Prelude.{◌≡◌, ℕ, List, [], ◌∷◌, ◌++◌, codes, map}
use Rattle.vc_expression.specs.Grammar.{IsCount}
use Rattle.vc_expression.specs.Views.{rev_view, StandsRev}
use Rattle.vc_expression.specs.SetGrammar.{AreSpaces, EndsText, TermText}
use Rattle.vc_expression.specs.SetGrammar as texts
use Rattle.vc_expression.specs.declared.token.Ends.{Ends}
use Rattle.vc_expression.specs.declared.token.Ends.TheVariants.{Both, From, To}
use Rattle.vc_expression.specs.declared.token.Term.{Term}
use Rattle.vc_expression.specs.declared.token.Term.TheVariants.{Include, Exclude, Parents, ExcludeParents, Only, Since, Range, Symmetric}
use Rattle.vc_expression.specs.declared.token.SetExpr.{SetExpr}

abbrev pub ends_view : Ends → EndsText
ends_view (Both a b) = texts.Both (rev_view a) (rev_view b)
ends_view (From a) = texts.From (rev_view a)
ends_view (To b) = texts.To (rev_view b)

-- a term without where its tokens lie
abbrev pub term_view : Term → TermText
term_view (Include rev) = texts.Include (rev_view rev)
term_view (Exclude rev) = texts.Exclude (rev_view rev)
term_view (Parents rev) = texts.Parents (rev_view rev)
term_view (ExcludeParents rev) = texts.ExcludeParents (rev_view rev)
term_view (Only rev) = texts.Only (rev_view rev)
term_view (Since rev n) = texts.Since (rev_view rev) n
term_view (Range ends) = texts.Range (ends_view ends)
term_view (Symmetric ends) = texts.Symmetric (ends_view ends)

-- the ends of a range stand at the front of an end of the source, one on each side of the dots, and the rest follows them
abbrev pub StandsEnds : List ℕ → List ℕ → List ℕ → Ends → List ℕ → Type 0
StandsEnds dots source text (Both a b) rest = (behind : List ℕ) × StandsRev source text a (dots ++ behind) × StandsRev source behind b rest
StandsEnds dots source text (From a) rest = StandsRev source text a (dots ++ rest)
StandsEnds dots source text (To b) rest = (behind : List ℕ) × (text ≡ dots ++ behind) × StandsRev source behind b rest

-- the tokens of a term stand there with its marks, each at its place, and the rest follows them
abbrev pub StandsTerm : List ℕ → List ℕ → Term → List ℕ → Type 0
StandsTerm source text (Include rev) rest = StandsRev source text rev rest
StandsTerm source text (Exclude rev) rest = (behind : List ℕ) × (text ≡ codes "^" ++ behind) × StandsRev source behind rev rest
StandsTerm source text (Parents rev) rest = StandsRev source text rev (codes "^@" ++ rest)
StandsTerm source text (ExcludeParents rev) rest = (behind : List ℕ) × (text ≡ codes "^" ++ behind) × StandsRev source behind rev (codes "^@" ++ rest)
StandsTerm source text (Only rev) rest = StandsRev source text rev (codes "^!" ++ rest)
StandsTerm source text (Since rev n) rest = (digits : List ℕ) × IsCount digits n × StandsRev source text rev (codes "^-" ++ (digits ++ rest))
StandsTerm source text (Range ends) rest = StandsEnds (codes "..") source text ends rest
StandsTerm source text (Symmetric ends) rest = StandsEnds (codes "...") source text ends rest

-- one term or more stand there one behind another, with spaces between them, up to the end of the source
abbrev pub StandTerms : List ℕ → List ℕ → List Term → Type 0
StandTerms source text [] = ⊥
StandTerms source text (term ∷ []) = StandsTerm source text term []
StandTerms source text (term ∷ other ∷ others) = (spaces rest : List ℕ) × StandsTerm source text term (spaces ++ rest) × AreSpaces spaces × StandTerms source rest (other ∷ others)

abbrev pub terms_view : SetExpr → List TermText
terms_view set = map term_view set.terms.items

-- the tokens of a set stand one behind another in the source, from its front to its end
abbrev pub SetSlices : List ℕ → SetExpr → Type 0
SetSlices source set = StandTerms source source set.terms.items
