mod Tables
