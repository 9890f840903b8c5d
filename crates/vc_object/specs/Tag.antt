-- What an annotated tag holds, and how it is spelled (Git user manual, "Tag Object"; git-mktag).
use Rattle.std.specs.Prelude.{◌≡◌, ◌≢◌, ℕ, List, [], ◌++◌, codes}
use Rattle.vc_object.specs.Bytes.{Without}
use Rattle.vc_object.specs.Kind.{word}
use Rattle.vc_object.specs.Lines.{IsId, line, id_line}
use Rattle.vc_object.specs.declared.id.ObjectId.{ObjectId}
use Rattle.vc_object.specs.declared.kind.Kind.{Kind}

-- what a tag holds; own: the kind that it states is not compared with that of the object, and the rest, usually
-- the tagger, a blank line and the message, may be any bytes
pub record TagText : Type 0 where
  pub object : ObjectId
  pub kind : Kind
  pub name : List ℕ
  pub rest : List ℕ

-- its lines: the object's, the kind's and the name's, and then the rest
abbrev pub tag_bytes : TagText → List ℕ
tag_bytes t =
    id_line (codes "object ") t.object
    ++ line (codes "type ") (word t.kind)
    ++ line (codes "tag ") t.name
    ++ t.rest

-- the id is written in lower case, and the name is not empty and holds no LF
pub record IsTag (t : TagText) : Type 0 where
  pub object : IsId t.object
  pub some : t.name ≢ []
  pub name : Without 10 t.name

-- a tag's body
abbrev pub IsTagBody : List ℕ → Type 0
IsTagBody body = (t : TagText) × IsTag t × (body ≡ tag_bytes t)
