-- Every size, width, column and limit of the papers, named once. Another number of slots is one line here (paper 02, R-2).
use Rattle.std.specs.Prelude.{ℕ, ◌+◌, ◌*◌}

-- ---- "The store": how many there are of each

abbrev pub SLOTS : ℕ
SLOTS = 128

-- bytes of a slot
abbrev pub BLOCK : ℕ
BLOCK = 512

-- directory entries (the paper's places), and the bytes of one
abbrev pub DIRENTS : ℕ
DIRENTS = 16

abbrev pub DIRENT_WIDTH : ℕ
DIRENT_WIDTH = 16

-- the entries that lookups and lists go through: in the root one more, that of /rom; in every other directory the bytes there are 0
abbrev pub ENTRIES : ℕ
ENTRIES = DIRENTS + 1

-- prompts of the factory part, which have the numbers from SLOTS on; and the number of their directory, /rom
abbrev pub PROMPTS : ℕ
PROMPTS = 16

abbrev pub ROM : ℕ
ROM = SLOTS + PROMPTS

-- open files (the paper's open entries)
abbrev pub OPEN_FILES : ℕ
OPEN_FILES = 32

abbrev pub PROCESSES : ℕ
PROCESSES = 8

abbrev pub DESCRIPTORS : ℕ
DESCRIPTORS = 8

abbrev pub LABELS : ℕ
LABELS = 16

-- bytes of a name, names and bytes of a path
abbrev pub NAME : ℕ
NAME = 14

abbrev pub NAMES : ℕ
NAMES = 8

abbrev pub PATH : ℕ
PATH = 64

-- symbolic links followed in one walk
abbrev pub FOLLOWS : ℕ
FOLLOWS = 8

-- ---- a file's record

abbrev pub FILE_WIDTH : ℕ
FILE_WIDTH = 8

abbrev pub FILE_KIND : ℕ
FILE_KIND = 0

abbrev pub FILE_OWNER : ℕ
FILE_OWNER = 1

abbrev pub FILE_GROUP : ℕ
FILE_GROUP = 2

abbrev pub FILE_BITS : ℕ
FILE_BITS = 3

abbrev pub FILE_LABEL : ℕ
FILE_LABEL = 4

abbrev pub FILE_LENGTH : ℕ
FILE_LENGTH = 5

-- how many directory entries name it (the paper's names)
abbrev pub FILE_LINKS : ℕ
FILE_LINKS = 6

-- the paper's stamp
abbrev pub FILE_VERSION : ℕ
FILE_VERSION = 7

-- kinds
abbrev pub FREE : ℕ
FREE = 0

abbrev pub PLAIN : ℕ
PLAIN = 1

abbrev pub DIRECTORY : ℕ
DIRECTORY = 2

-- a symbolic link
abbrev pub LINK : ℕ
LINK = 3

-- ---- an open file

abbrev pub OPEN_FILE_WIDTH : ℕ
OPEN_FILE_WIDTH = 4

abbrev pub OPEN_SLOT : ℕ
OPEN_SLOT = 0

abbrev pub OPEN_MODE : ℕ
OPEN_MODE = 1

-- the paper's position
abbrev pub OPEN_OFFSET : ℕ
OPEN_OFFSET = 2

abbrev pub OPEN_REFERENCES : ℕ
OPEN_REFERENCES = 3

-- ---- a process: four words of its own, then its descriptors (0 nothing, e + 1 open file e)

abbrev pub PROCESS_WIDTH : ℕ
PROCESS_WIDTH = 12

abbrev pub PROCESS_DESCRIPTOR : ℕ
PROCESS_DESCRIPTOR = 4

abbrev pub PROCESS_USED : ℕ
PROCESS_USED = 0

abbrev pub PROCESS_USER : ℕ
PROCESS_USER = 1

abbrev pub PROCESS_GROUP : ℕ
PROCESS_GROUP = 2

-- a process's label
abbrev pub PROCESS_LABEL : ℕ
PROCESS_LABEL = 3

-- ---- the policy: rights, then transitions

abbrev pub RIGHTS_SIZE : ℕ
RIGHTS_SIZE = LABELS * LABELS

-- no transition
abbrev pub NO_TRANSITION : ℕ
NO_TRANSITION = 255

-- ---- largest values

abbrev pub KIND_MAX : ℕ
KIND_MAX = 3

abbrev pub USER_MAX : ℕ
USER_MAX = 65535

abbrev pub GROUP_MAX : ℕ
GROUP_MAX = 65535

-- rights: of the policy, and those that bits are made of
abbrev pub RIGHTS_MAX : ℕ
RIGHTS_MAX = 7

-- bits: the owner's rights, the group's and the others', each with values of its own (64, 8, 1)
abbrev pub BITS_MAX : ℕ
BITS_MAX = 511

abbrev pub LABEL_MAX : ℕ
LABEL_MAX = 15

abbrev pub MODE_MAX : ℕ
MODE_MAX = 4

abbrev pub WORD_MAX : ℕ
WORD_MAX = 4294967295

-- a number as a call is written down
abbrev pub NUMBER_MAX : ℕ
NUMBER_MAX = 65535

-- ---- bytes

abbrev pub SLASH : ℕ
SLASH = 47

abbrev pub POINT : ℕ
POINT = 46
