-- The number of each refusal (RULES.md, 2). Assumes nothing.
use Rattle.std.specs.Prelude.{ℕ}
use Rattle.refusal.specs.declared.Refusal.{Refusal}
use Rattle.refusal.specs.declared.Refusal.TheVariants.{ShortRoom, AfterEnd, NotOnePage, WrongChecksum, OtherSerial, OutOfSequence, WrongFlags, WrongContinued, PacketTooLong, HeaderShape, WrongGranule, BadHead, BadMapping, BadTags, IllegalPacket, MixedLengths, GranuleTooSmall, BelowPreSkip, NoPosition, NoSuchPart, BadGain, ShortOutput, UnfitFields, HeadersIncomplete, FallingGranule, NoCropStart, ClockRange}

abbrev pub number_of : Refusal → ℕ
number_of ShortRoom = 1
number_of AfterEnd = 2
number_of NotOnePage = 3
number_of WrongChecksum = 4
number_of OtherSerial = 5
number_of OutOfSequence = 6
number_of WrongFlags = 7
number_of WrongContinued = 8
number_of PacketTooLong = 9
number_of HeaderShape = 10
number_of WrongGranule = 11
number_of BadHead = 12
number_of BadMapping = 13
number_of BadTags = 14
number_of IllegalPacket = 15
number_of MixedLengths = 16
number_of GranuleTooSmall = 17
number_of BelowPreSkip = 18
number_of NoPosition = 19
number_of NoSuchPart = 20
number_of BadGain = 21
number_of ShortOutput = 22
number_of UnfitFields = 23
number_of HeadersIncomplete = 24
number_of FallingGranule = 26
number_of NoCropStart = 29
number_of ClockRange = 30
