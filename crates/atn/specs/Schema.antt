-- Document 01's schema for clean: its messages and the supplied readers as ASN.1 types. What is unread or not supplied has no values.
use Rattle.std.specs.Prelude.{List, [], ◌∷◌, ℕ, ◌-◌, get_or}
use Rattle.x691.specs.Types.{Asn, NULL, UNLISTED, INTEGER, ENUMERATED, ONE-OF, STRING, ANY-STRING, EXTENSIBLE, SEQUENCE, CHOICE, SEQUENCE-OF, CONTAINING}
use Rattle.x691.specs.Types.{END, ◌&◌, ◌&?◌, Alternatives, NONE, ◌∣◌}

---------------------------------------------------------------- strings, and numbers below zero

abbrev pub IA5String : ℕ → ℕ → Asn
IA5String lo hi = STRING 128 lo hi

-- the space and the digits, eleven characters (X.680 37.2)
abbrev pub NumericString : ℕ → ℕ → Asn
NumericString lo hi = STRING 11 lo hi

abbrev pub BitString : ℕ → ℕ → Asn
BitString lo hi = STRING 2 lo hi

abbrev pub OctetString : ℕ → ℕ → Asn
OctetString lo hi = STRING 256 lo hi

abbrev pub minus : ℕ → ℕ
minus n = 18446744073709551616 - n

---------------------------------------------------------------- times

abbrev pub Date : Asn
Date = SEQUENCE (INTEGER 1996 2095 & INTEGER 1 12 & INTEGER 1 31 & END)

abbrev pub Time : Asn
Time = SEQUENCE (INTEGER 0 23 & INTEGER 0 59 & END)

abbrev pub Timehhmmss : Asn
Timehhmmss = SEQUENCE (INTEGER 0 23 & INTEGER 0 59 & INTEGER 0 59 & END)

abbrev pub DateTimeGroup : Asn
DateTimeGroup = SEQUENCE (Date & Timehhmmss & END)

---------------------------------------------------------------- places

-- thousandths of a degree; degrees and hundredths of a minute; degrees, minutes and seconds; and the side
abbrev pub Angle : ℕ → ℕ → Asn
Angle thousandths degrees =
    SEQUENCE (CHOICE (INTEGER 0 thousandths ∣ SEQUENCE (INTEGER 0 degrees & INTEGER 0 5999 & END) ∣ SEQUENCE (INTEGER 0 degrees & INTEGER 0 59 & INTEGER 0 59 & END) ∣ NONE) & ENUMERATED 2 & END)

abbrev pub LatitudeLongitude : Asn
LatitudeLongitude = SEQUENCE (Angle 90000 89 &? Angle 180000 179 &? END)

-- the name of a fix or of a navaid, of at most so many characters, and where it is
abbrev pub Named : ℕ → Asn
Named most = SEQUENCE (IA5String 1 most & LatitudeLongitude &? END)

abbrev pub Airport : Asn
Airport = IA5String 4 4

-- the fifth alternative, a place by bearing and distance, is not read
abbrev pub Position : Asn
Position = CHOICE (Named 5 ∣ Named 4 ∣ Airport ∣ LatitudeLongitude ∣ UNLISTED ∣ NONE)

abbrev pub PublishedIdentifier : Asn
PublishedIdentifier = CHOICE (Named 5 ∣ Named 4 ∣ NONE)

---------------------------------------------------------------- the arguments of elements

-- magnetic or true
abbrev pub Degrees : Asn
Degrees = CHOICE (INTEGER 1 360 ∣ INTEGER 1 360 ∣ NONE)

abbrev pub Speed : Asn
Speed = CHOICE (INTEGER 0 400 ∣ INTEGER 0 800 ∣ INTEGER 0 2000 ∣ INTEGER 0 4000 ∣ INTEGER (minus 50) 2000 ∣ INTEGER (minus 100) 4000 ∣ INTEGER 500 4000 ∣ NONE)

abbrev pub SpeedType : Asn
SpeedType = EXTENSIBLE (ENUMERATED 9)

abbrev pub LevelType : Asn
LevelType = CHOICE (INTEGER (minus 60) 7000 ∣ INTEGER (minus 30) 25000 ∣ INTEGER 30 700 ∣ INTEGER 100 2500 ∣ NONE)

abbrev pub Frequency : Asn
Frequency = CHOICE (INTEGER 2850 28000 ∣ INTEGER 23600 27398 ∣ INTEGER 9000 15999 ∣ NumericString 12 12 ∣ NONE)

-- four octal digits
abbrev pub Code : Asn
Code = SEQUENCE-OF 4 4 (INTEGER 0 7)

abbrev pub TrafficType : Asn
TrafficType = EXTENSIBLE (ENUMERATED 6)

abbrev pub ClearanceType : Asn
ClearanceType = EXTENSIBLE (ENUMERATED 12)

abbrev pub ErrorInformation : Asn
ErrorInformation = EXTENSIBLE (ENUMERATED 5)

abbrev pub FacilityFunction : Asn
FacilityFunction = EXTENSIBLE (ENUMERATED 9)

-- arrival, approach or departure; name; transition
abbrev pub ProcedureName : Asn
ProcedureName = SEQUENCE (ENUMERATED 3 & IA5String 1 20 & IA5String 1 5 &? END)

-- direction; left, right, centre or none
abbrev pub Runway : Asn
Runway = SEQUENCE (INTEGER 1 36 & ENUMERATED 4 & END)

-- the flight information and the further instructions are not read
abbrev pub DepartureClearance : Asn
DepartureClearance = SEQUENCE (IA5String 2 8 & Position & UNLISTED &? UNLISTED &? END)

-- the type of an argument by the byte of the lent table
abbrev pub argument_types : List Asn
argument_types =
    NULL ∷ Position ∷ Speed ∷ SpeedType ∷ SEQUENCE-OF 3 3 SpeedType ∷ LevelType ∷ Degrees ∷ Frequency ∷ Code ∷ TrafficType ∷ ClearanceType ∷ ErrorInformation ∷ FacilityFunction ∷ ProcedureName ∷ Runway ∷ LatitudeLongitude ∷ DepartureClearance ∷ []

-- the elements of a lent table, by their index
unfoldable pub MsgElementId : List ℕ → Alternatives
MsgElementId [] = NONE
MsgElementId (k ∷ table) = get_or argument_types k UNLISTED ∣ MsgElementId table

---------------------------------------------------------------- route clearances

abbrev pub PlaceBearing : Asn
PlaceBearing = SEQUENCE (PublishedIdentifier & Degrees & END)

-- the distance of the fourth alternative is not supplied
abbrev pub RouteInformation : Asn
RouteInformation =
    CHOICE (PublishedIdentifier ∣ LatitudeLongitude ∣ SEQUENCE-OF 2 2 PlaceBearing ∣ SEQUENCE (PublishedIdentifier & Degrees & UNLISTED & END) ∣ IA5String 2 7 ∣ NONE)

-- the additional route information is not read
abbrev pub RouteClearance : Asn
RouteClearance =
    SEQUENCE (Airport &? Airport &? Runway &? ProcedureName &? Runway &? ProcedureName &? ProcedureName &? SEQUENCE-OF 1 128 RouteInformation &? UNLISTED &? END)

---------------------------------------------------------------- CPDLC

abbrev pub ConstrainedData : Asn
ConstrainedData = EXTENSIBLE (SEQUENCE (SEQUENCE-OF 1 2 RouteClearance &? END))

abbrev pub MessageData : List ℕ → Asn
MessageData table = SEQUENCE (SEQUENCE-OF 1 5 (CHOICE (MsgElementId table)) & ConstrainedData &? END)

-- identification number, reference number, time, logical acknowledgment DEFAULT
abbrev pub ATCMessage : List ℕ → Asn
ATCMessage table = SEQUENCE (INTEGER 0 63 & INTEGER 0 63 &? DateTimeGroup & ENUMERATED 2 &? MessageData table & END)

-- the algorithm identifier is not read; the message; the integrity check
abbrev pub ProtectedMessage : List ℕ → Asn
ProtectedMessage table = EXTENSIBLE (SEQUENCE (UNLISTED &? CONTAINING (ATCMessage table) &? ANY-STRING 2 & END))

abbrev pub UserAbortReason : Asn
UserAbortReason = EXTENSIBLE (ENUMERATED 13)

abbrev pub ProviderAbortReason : Asn
ProviderAbortReason = EXTENSIBLE (ENUMERATED 8)

-- mode DEFAULT, then the message
abbrev pub StartDownMessage : List ℕ → Asn
StartDownMessage table = SEQUENCE (ENUMERATED 2 &? ProtectedMessage table & END)

-- user abort, provider abort, start, send
abbrev pub AircraftPDUs : List ℕ → Asn
AircraftPDUs down = EXTENSIBLE (CHOICE (UserAbortReason ∣ ProviderAbortReason ∣ StartDownMessage down ∣ ProtectedMessage down ∣ NONE))

abbrev pub ForwardHeader : Asn
ForwardHeader = SEQUENCE (DateTimeGroup & IA5String 2 8 & BitString 24 24 & END)

-- header, then uplink or downlink elements
abbrev pub ForwardMessage : List ℕ → List ℕ → Asn
ForwardMessage down up = SEQUENCE (ForwardHeader & CHOICE (CONTAINING (MessageData up) ∣ CONTAINING (MessageData down) ∣ NONE) & END)

abbrev pub ForwardResponse : Asn
ForwardResponse = EXTENSIBLE (ENUMERATED 3)

-- user abort, provider abort, start, send, forward, forward response
abbrev pub GroundPDUs : List ℕ → List ℕ → Asn
GroundPDUs down up =
    EXTENSIBLE (CHOICE (UserAbortReason ∣ ProviderAbortReason ∣ ProtectedMessage up ∣ ProtectedMessage up ∣ ForwardMessage down up ∣ ForwardResponse ∣ NONE))

---------------------------------------------------------------- Context Management

abbrev pub ShortTsap : Asn
ShortTsap = SEQUENCE (OctetString 3 3 &? OctetString 10 11 & END)

abbrev pub LongTsap : Asn
LongTsap = SEQUENCE (OctetString 5 5 & ShortTsap & END)

abbrev pub AEQualifierVersion : Asn
AEQualifierVersion = SEQUENCE (INTEGER 0 255 & INTEGER 1 255 & END)

-- the address is not supplied
abbrev pub AEQualifierVersionAddress : Asn
AEQualifierVersionAddress = SEQUENCE (INTEGER 0 255 & INTEGER 1 255 & UNLISTED & END)

abbrev pub CMDateTime : Asn
CMDateTime = SEQUENCE (Date & Time & END)

-- the facility designation is not supplied
abbrev pub CMLogonRequest : Asn
CMLogonRequest =
    SEQUENCE (IA5String 2 8 & LongTsap & SEQUENCE-OF 1 256 AEQualifierVersionAddress &? SEQUENCE-OF 1 256 AEQualifierVersion &? UNLISTED &? Airport &? Airport &? CMDateTime &? END)

abbrev pub CMLogonResponse : Asn
CMLogonResponse = SEQUENCE (SEQUENCE-OF 1 256 AEQualifierVersionAddress &? SEQUENCE-OF 1 256 AEQualifierVersion &? END)

abbrev pub CMAbortReason : Asn
CMAbortReason = EXTENSIBLE (ENUMERATED 10)

-- logon response, update, contact request, forward request, abort, forward response; the contact request begins with the facility designation, which is not supplied
abbrev pub CMGroundMessage : Asn
CMGroundMessage = EXTENSIBLE (CHOICE (CMLogonResponse ∣ CMLogonResponse ∣ UNLISTED ∣ CMLogonRequest ∣ CMAbortReason ∣ ENUMERATED 3 ∣ NONE))

-- logon request, contact response, abort
abbrev pub CMAircraftMessage : Asn
CMAircraftMessage = EXTENSIBLE (CHOICE (CMLogonRequest ∣ ENUMERATED 2 ∣ CMAbortReason ∣ NONE))

---------------------------------------------------------------- association control

-- normal, urgent or not finished, user defined
abbrev pub ReleaseReason : Asn
ReleaseReason = EXTENSIBLE (ONE-OF 30 (0 ∷ 1 ∷ 30 ∷ []))

-- document 01 gives the preamble one presence bit; X.691 would give `user-information` one too
abbrev pub Release : Asn
Release = EXTENSIBLE (SEQUENCE (ReleaseReason &? END))

abbrev pub Abort : Asn
Abort = EXTENSIBLE (SEQUENCE (EXTENSIBLE (INTEGER 0 1) & EXTENSIBLE (ENUMERATED 6) &? END))

-- AARQ, AARE, release request, release response, abort; the bodies of AARQ and AARE are not read
abbrev pub ACSE-apdu : Asn
ACSE-apdu = EXTENSIBLE (CHOICE (UNLISTED ∣ UNLISTED ∣ Release ∣ Release ∣ Abort ∣ NONE))
