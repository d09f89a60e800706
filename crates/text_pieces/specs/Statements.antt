-- What is proved of pieces put one after the other. Assumes nothing.
use Rattle.std.specs.Prelude.{◌≡◌, true, List, leb, length}
use Rattle.octets.specs.Octets.{Bytes, copied}
use Rattle.text_pieces.specs.Pieces.{begun, lay_all, joined}

-- all pieces fit exactly where their text does
abbrev pub AllFit : Type 0
AllFit = (d : Bytes) (ss : List Bytes) → (lay_all (begun d) ss).all ≡ leb (length (joined ss)) (length d)

-- the text t put to the start of d
pub record TextLaid (d t : Bytes) (ss : List Bytes) : Type 0 where
  pub place : (lay_all (begun d) ss).place ≡ length t
  pub buffer : (lay_all (begun d) ss).buffer ≡ copied d 0 t

-- then the buffer holds that text, and nothing else has changed
abbrev pub WholeText : Type 0
WholeText = (d : Bytes) (ss : List Bytes) → (lay_all (begun d) ss).all ≡ true → TextLaid d (joined ss) ss
