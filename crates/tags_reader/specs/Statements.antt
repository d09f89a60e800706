-- What is proved of comment headers, in addition to the contracts. Assumes nothing.
use Rattle.std.specs.Prelude.{ℕ, suc, ◌+◌, ◌<◌, ◌≤◌, ◌≡◌, [], length, get_or}
use Rattle.octets.specs.Octets.{Bytes, Octets}
use Rattle.refusal.specs.Told.{gives}
use Rattle.tags_layout.specs.declared.Part.{Part}
use Rattle.tags_layout.specs.Layout.{Tags, bytes_of, vendor_part, comment_place}
use Rattle.tags_layout.specs.Finding.{find_text}
use Rattle.tags_reader.specs.Reading.{read_tags, comment_count, comment_part, find_comment}
use Rattle.tags_reader.specs.Packet.{tags_bytes}

-- the bytes of a packet that was read are its parts put together again
abbrev pub PartsTogether : Type 0
PartsTogether = (b : Bytes) (t : Tags) → Octets b → read_tags b ≡ gives t → tags_bytes t ≡ b

abbrev pub end_of : Part → ℕ
end_of p = p.start + p.size

-- the vendor and the comments lie inside the packet, one after the other
pub record Apart (b : Bytes) (t : Tags) : Type 0 where
  pub vendor : bytes_of b (vendor_part b) ≡ t.vendor
  pub vendor_inside : end_of (vendor_part b) ≤ length b
  pub comment : (i : ℕ) → i < comment_count t → bytes_of b (comment_part b i) ≡ get_or t.comments i []
  pub comment_inside : (i : ℕ) → i < comment_count t → end_of (comment_part b i) ≤ length b
  pub after_vendor : (i : ℕ) → i < comment_count t → end_of (vendor_part b) ≤ (comment_part b i).start
  pub in_order : (i j : ℕ) → i < j → j < comment_count t → end_of (comment_part b i) ≤ (comment_part b j).start

abbrev pub PartsApart : Type 0
PartsApart = (b : Bytes) (t : Tags) → read_tags b ≡ gives t → Apart b t

-- a listing that goes from the end of each comment to the next finds each of them
pub record Listed (b : Bytes) (i : ℕ) : Type 0 where
  pub found : find_text b (comment_place b i) ≡ find_comment b i
  pub next : comment_place b (suc i) ≡ end_of (comment_part b i)

abbrev pub ListingFinds : Type 0
ListingFinds = (b : Bytes) (t : Tags) (i : ℕ) → read_tags b ≡ gives t → i < comment_count t → Listed b i
