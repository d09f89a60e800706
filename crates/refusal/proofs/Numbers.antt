-- No refusal has the number 0. Assumes nothing.
use mathlib.Core.Path.{refl}
use Rattle.refusal.specs.declared.Refusal.TheVariants.{ShortRoom, AfterEnd, NotOnePage, WrongChecksum, OtherSerial, OutOfSequence, WrongFlags, WrongContinued, PacketTooLong, HeaderShape, WrongGranule, BadHead, BadMapping, BadTags, IllegalPacket, MixedLengths, GranuleTooSmall, BelowPreSkip, NoPosition, NoSuchPart, BadGain, ShortOutput, UnfitFields, HeadersIncomplete, FallingGranule, NoCropStart, ClockRange}
use Rattle.refusal.specs.Statements.{NumbersPositive}

pub numbers_positive : NumbersPositive
numbers_positive ShortRoom = refl
numbers_positive AfterEnd = refl
numbers_positive NotOnePage = refl
numbers_positive WrongChecksum = refl
numbers_positive OtherSerial = refl
numbers_positive OutOfSequence = refl
numbers_positive WrongFlags = refl
numbers_positive WrongContinued = refl
numbers_positive PacketTooLong = refl
numbers_positive HeaderShape = refl
numbers_positive WrongGranule = refl
numbers_positive BadHead = refl
numbers_positive BadMapping = refl
numbers_positive BadTags = refl
numbers_positive IllegalPacket = refl
numbers_positive MixedLengths = refl
numbers_positive GranuleTooSmall = refl
numbers_positive BelowPreSkip = refl
numbers_positive NoPosition = refl
numbers_positive NoSuchPart = refl
numbers_positive BadGain = refl
numbers_positive ShortOutput = refl
numbers_positive UnfitFields = refl
numbers_positive HeadersIncomplete = refl
numbers_positive FallingGranule = refl
numbers_positive NoCropStart = refl
numbers_positive ClockRange = refl
